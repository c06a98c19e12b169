-- Worked rows of operands from variables, of what a role sees, of session slots and of permission limits.
use Rattle.std.proofs.Common.{◌≡◌, List, [], ◌∷◌, map, Option, Some, None, true, false}
use Rattle.std.specs.Prelude.{codes}
use Rattle.std.specs.Fmt.{digits}
use Rattle.json.specs.Print.{escape_byte}
use Rattle.serde_json.specs.Data.{no_members}
use Rattle.scalar_val.specs.declared.val.Kind.TheVariants as kind
use Rattle.scalar_val.specs.declared.val.Val.TheVariants as val
use Rattle.data_model.specs.Rows.{Database}
use Rattle.plan_model.specs.declared.filter.Filter.TheVariants as filter
use Rattle.plan_model.specs.declared.filter.Op.TheVariants as compare
use Rattle.plan_model.specs.declared.filter.Operand.TheVariants as operand
use Rattle.role_model.specs.declared.metadata.LinkDef.{LinkDef}
use Rattle.role_model.specs.declared.metadata.Metadata.{Metadata}
use Rattle.role_model.specs.declared.metadata.RoleDef.{RoleDef}
use Rattle.role_model.specs.Roles.{View}
use Rattle.role_model.specs.Texts.{Texts}
use Rattle.plan_model.proofs.Truths.{truths}
use Rattle.request_model.specs.declared.document.GValue.{GValue}
use Rattle.request_model.specs.declared.document.GValue.TheVariants as v
use Rattle.request_model.specs.declared.document.GPair.{GPair}
use Rattle.request_model.specs.declared.document.TypeRef.{TypeRef}
use Rattle.request_model.specs.declared.document.TypeRef.TheVariants as type
use Rattle.request_model.specs.declared.document.VarDef.{VarDef}
use Rattle.request_model.specs.declared.flat.FlatField.{FlatField}
use Rattle.request_model.specs.declared.flat.Flat.{Flat}
use Rattle.scalar_val.specs.declared.word.Word.TheVariants as word
use Rattle.request_model.specs.Strings.{Text}
use Rattle.request_model.specs.Canonical.{canonical}
use Rattle.request_model.proofs.SelectionRules.{canonical_texts}
use Rattle.query_model.specs.declared.fault.FaultKind.TheVariants as fault
use Rattle.query_model.specs.declared.fault.QueryFault.{QueryFault}
use Rattle.query_model.specs.declared.kind.SubKind.TheVariants as sub
use Rattle.query_model.specs.Queries.{Query, selection_slots, text_variables}
use Rattle.query_model.specs.Admission.{admitted}
use Rattle.query_model.specs.Plans.{plan_of}
use Rattle.query_model.specs.Results.{result}
use Rattle.query_model.proofs.QueryRules.{queries}
use Rattle.query_model.proofs.Samples.{metadata, table, column, user_table, post_table, posts_link, author_link, users, posts, admin, session, leaf, node, subscription, pair, one, order_by, int, text, post, refused_with, refuses, id}

abbrev declares : Text → TypeRef → GValue → VarDef
declares name t default = record { name = name; kind = t; default = Some default; directives = [] }

-- $n: Int = null, $m: Int = -1, $k: Int = 3, $b: Boolean = null, $l: [Int!] = [1, 2], $o: [Int] = [1, null], $z: [Int] = null, $g: bigint = 1
abbrev declared : List VarDef
declared =
    declares (codes "n") (type.Named (codes "Int") false) v.Null
    ∷ declares (codes "m") (type.Named (codes "Int") false) (v.Int (codes "-1"))
    ∷ declares (codes "k") (type.Named (codes "Int") false) (v.Int (codes "3"))
    ∷ declares (codes "b") (type.Named (codes "Boolean") false) v.Null
    ∷ declares (codes "l") (type.Listed (type.Named (codes "Int") true) false) (v.Many (v.Int (codes "1") ∷ v.Int (codes "2") ∷ []))
    ∷ declares (codes "o") (type.Listed (type.Named (codes "Int") false) false) (v.Many (v.Int (codes "1") ∷ v.Null ∷ []))
    ∷ declares (codes "z") (type.Listed (type.Named (codes "Int") false) false) v.Null
    ∷ declares (codes "g") (type.Named (codes "bigint") false) (v.Int (codes "1"))
    ∷ []

abbrev judged : List GPair → Option QueryFault
judged args = refused_with (admitted posts admin no_members (subscription declared (node (codes "user") args id)))

abbrev var : Text → GValue
var name = v.Var name

-- limit: $n, $k, $m, $g, $l and $none
limits : map (λ name. judged (pair (codes "limit") (var name) ∷ [])) (codes "n" ∷ codes "k" ∷ codes "m" ∷ codes "g" ∷ codes "l" ∷ codes "none" ∷ []) ≡
    None ∷ None ∷ refuses fault.WrongType (codes "limit") ∷ refuses fault.WrongType (codes "g") ∷ refuses fault.WrongType (codes "l") ∷ refuses fault.MissingVariable (codes "none") ∷ []
limits = simp (queries, canonical_texts)

abbrev on_id : Text → GValue → Option QueryFault
on_id operator x = judged (pair (codes "where") (one (codes "id") (one operator x)) ∷ [])

-- _in: $l, $o, $z, $k, [$k], [$l], [], 1 and "a"
lists : map (on_id (codes "_in"))
    (var (codes "l") ∷ var (codes "o") ∷ var (codes "z") ∷ var (codes "k") ∷ v.Many (var (codes "k") ∷ []) ∷ v.Many (var (codes "l") ∷ []) ∷ v.Many [] ∷ v.Int (codes "1") ∷ v.Text (codes "a") ∷ []) ≡
    None ∷ refuses fault.NullOperand (codes "id") ∷ refuses fault.NullOperand (codes "id") ∷ refuses fault.WrongType (codes "k") ∷ None ∷ refuses fault.WrongType (codes "l") ∷ None ∷ None ∷ refuses fault.WrongType (codes "id") ∷ []
lists = simp (queries, canonical_texts)

-- _is_null: $b, $k, null, 1 and true
nulls : map (on_id (codes "_is_null")) (var (codes "b") ∷ var (codes "k") ∷ v.Null ∷ v.Int (codes "1") ∷ v.Bool true ∷ []) ≡
    refuses fault.NullOperand (codes "id") ∷ refuses fault.WrongType (codes "k") ∷ refuses fault.NullOperand (codes "id") ∷ refuses fault.WrongType (codes "id") ∷ None ∷ []
nulls = simp (queries, canonical_texts)

-- null for where, order_by and limit
no_arguments : judged (pair (codes "where") v.Null ∷ pair (codes "order_by") v.Null ∷ pair (codes "limit") v.Null ∷ []) ≡ None
no_arguments = simp (queries, canonical_texts)

-- an argument that stands twice, before its value
twice : judged (pair (codes "limit") (v.Int (codes "1")) ∷ pair (codes "limit") (v.Text []) ∷ []) ≡ refuses fault.NoArgument (codes "limit")
twice = simp (queries, canonical_texts)

-- a key of a condition that stands twice, before its value, a relationship, and a list of conditions with something else in it
twice_and : judged (pair (codes "where") (v.Object (pair (codes "id") (v.Object []) ∷ pair (codes "id") v.Null ∷ [])) ∷ []) ≡ refuses fault.NoArgument (codes "id")
twice_and = simp (queries, canonical_texts)

posts_key : judged (pair (codes "where") (one (codes "posts") (v.Object [])) ∷ []) ≡ refuses fault.NoArgument (codes "posts")
posts_key = simp (queries, canonical_texts)

or_list : judged (pair (codes "where") (one (codes "_or") (v.Many (v.Object [] ∷ v.Int (codes "1") ∷ []))) ∷ []) ≡ refuses fault.WrongType (codes "_or")
or_list = simp (queries, canonical_texts)

-- ---- what a role sees

-- The clerk sees the titles of posts, at most one at a time, of the user and the tag in its session, whose two variables
-- stand several times; users it doesn't see.
abbrev clerk : RoleDef
clerk = record {
  name = codes "clerk";
  session_names = codes "x-hasura-tag" ∷ codes "x-hasura-id" ∷ [];
  grants = record {
    table = 1;
    columns = 2 ∷ [];
    limit = Some 1;
    filter = filter.And (
        filter.Cmp 2 compare.Eq (operand.Sess 0) ∷ filter.Cmp 2 compare.Eq (operand.Sess 1) ∷ filter.Cmp 0 compare.Gte (operand.Sess 1) ∷ filter.Cmp 2 compare.Eq (operand.Sess 0) ∷ []);
  } ∷ [];
}

abbrev clerks : Metadata
clerks = metadata (user_table ∷ post_table ∷ []) ((posts_link ∷ []) ∷ (author_link ∷ []) ∷ []) (clerk ∷ [])

abbrev titles : List GPair → Flat
titles args = subscription [] (node (codes "post") args (leaf (codes "title") ∷ []))

abbrev by_clerk : Texts → Flat → Option QueryFault
by_clerk vars s = refused_with (admitted clerks (session (codes "clerk") vars) no_members s)

abbrev clerk_view : View
clerk_view = record { metadata = clerks; role = codes "clerk" }

slots : selection_slots clerk_view (titles []) ≡
    record { name = codes "x-hasura-id"; kind = kind.Int } ∷ record { name = codes "x-hasura-id"; kind = kind.Text } ∷ record { name = codes "x-hasura-tag"; kind = kind.Text } ∷ []
slots = simp queries

sessions : map (λ vars. by_clerk vars (titles []))
    ([] ∷ ((codes "x-hasura-tag", []) ∷ []) ∷ ((codes "x-hasura-id", codes "a") ∷ []) ∷ ((codes "x-hasura-id", codes "1") ∷ []) ∷ ((codes "x-hasura-id", codes "1") ∷ (codes "x-hasura-tag", []) ∷ []) ∷ []) ≡
    refuses fault.MissingSession (codes "x-hasura-id") ∷ refuses fault.MissingSession (codes "x-hasura-id") ∷ refuses fault.BadSession (codes "x-hasura-id") ∷ refuses fault.MissingSession (codes "x-hasura-tag") ∷ None ∷ []
sessions = simp queries

-- hidden: the key, a column in `where` and in `order_by`, a relationship to an unseen table, that table, a hidden cursor
hidden : map (by_clerk [])
    (subscription [] (node (codes "post_by_pk") (pair (codes "id") (v.Int (codes "1")) ∷ []) (leaf (codes "title") ∷ []))
    ∷ titles (pair (codes "where") (one (codes "id") (v.Object [])) ∷ [])
    ∷ titles (order_by (codes "id") (codes "asc") ∷ [])
    ∷ subscription [] (node (codes "post") [] (node (codes "author") [] id ∷ []))
    ∷ subscription [] (node (codes "user") [] id)
    ∷ subscription [] (node (codes "post_stream") (pair (codes "cursor") (one (codes "initial_value") (one (codes "id") (v.Int (codes "1")))) ∷ []) (leaf (codes "title") ∷ []))
    ∷ []) ≡
    refuses fault.NoField (codes "post_by_pk") ∷ refuses fault.NoArgument (codes "id") ∷ refuses fault.NoArgument (codes "id") ∷ refuses fault.NoField (codes "author") ∷ refuses fault.NoField (codes "user") ∷ refuses fault.BadCursor (codes "cursor") ∷ []
hidden = simp (queries, canonical_texts)

-- a query operation has no streams, and the root no type name
abbrev in_query : FlatField → Option QueryFault
in_query f = refused_with (admitted users admin no_members (record { kind = word.Query; vars = []; conditions = []; fields = f ∷ [] }))

roots : map in_query (node (codes "user_stream") [] id ∷ leaf (codes "__typename") ∷ leaf (codes "user") ∷ node (codes "user") [] [] ∷ []) ≡
    refuses fault.NoField (codes "user_stream") ∷ refuses fault.NoField (codes "__typename") ∷ refuses fault.WrongType (codes "user") ∷ None ∷ []
roots = simp queries

-- the root's type conditions come before its field, and an object's behind its arguments
abbrev with_conditions : List Text → FlatField → Option QueryFault
with_conditions on f = refused_with (admitted users admin no_members (record { kind = word.Subscription; vars = []; conditions = on; fields = f ∷ [] }))

conditions : with_conditions (codes "subscription_root" ∷ codes "query_root" ∷ []) (leaf (codes "nope")) ∷ with_conditions (codes "subscription_root" ∷ []) (leaf (codes "nope")) ∷ [] ≡
    refuses fault.NoField (codes "query_root") ∷ refuses fault.NoField (codes "nope") ∷ []
conditions = simp queries

-- ---- variables of the text, in order of name, and equal plans

-- a cursor's initial value isn't there
abbrev stream_of : List GPair → Flat
stream_of args = subscription [] (node (codes "user_stream") args id)

abbrev bounded : GPair
bounded = pair (codes "where") (v.Object (pair (codes "name") (one (codes "_in") (v.Many (var (codes "b") ∷ var (codes "B") ∷ var (codes "b") ∷ []))) ∷ []))

abbrev initial : GValue → GPair
initial x = pair (codes "initial_value") (one (codes "id") x)

abbrev batch : GPair
batch = pair (codes "batch_size") (var (codes "a"))

abbrev cursor_of : List GPair → GPair
cursor_of pairs = pair (codes "cursor") (v.Object pairs)

named : text_variables (stream_of (bounded ∷ cursor_of (initial (var (codes "c")) ∷ []) ∷ batch ∷ [])) ≡ codes "B" ∷ codes "a" ∷ codes "b" ∷ []
named = simp (queries, canonical_texts)

abbrev as_admin : View
as_admin = record { metadata = users; role = codes "admin" }

one_plan : plan_of as_admin (stream_of (bounded ∷ cursor_of (initial (var (codes "c")) ∷ []) ∷ batch ∷ [])) ≡ plan_of as_admin (stream_of (batch ∷ cursor_of (initial (v.Int (codes "7")) ∷ []) ∷ bounded ∷ []))
one_plan = simp (queries, canonical_texts)

-- ---- limits of a permission, nulls and ties

abbrev asked_by : Text → Flat → Query
asked_by role s = record {
  kind = sub.Live;
  role = role;
  selection = s;
  variables = [];
  session =
      record { slot = record { name = codes "x-hasura-id"; kind = kind.Int }; value = int 1 }
      ∷ record { slot = record { name = codes "x-hasura-id"; kind = kind.Text }; value = text (codes "1") }
      ∷ record { slot = record { name = codes "x-hasura-tag"; kind = kind.Text }; value = text (codes "1") } ∷ [];
}

abbrev four_posts : Database
four_posts =
    ((int 1 ∷ text (codes "Ann") ∷ []) ∷ (int 2 ∷ val.Null ∷ []) ∷ (int 3 ∷ text (codes "Ann") ∷ []) ∷ [])
    ∷ (post 0 val.Null (codes "1") ∷ post 1 (int 2) (codes "1") ∷ post 2 (int 2) (codes "1") ∷ post 3 (int 1) (codes "a") ∷ []) ∷ []

-- limit 2 and offset 0, limit 0, and offset 1, of a role that is given one
caps : map (λ args. (result clerks (asked_by (codes "clerk") (titles args)) val.Null four_posts).text)
    ((pair (codes "limit") (v.Int (codes "2")) ∷ []) ∷ (pair (codes "limit") (v.Int (codes "0")) ∷ []) ∷ (pair (codes "offset") (v.Int (codes "1")) ∷ []) ∷ (pair (codes "offset") (v.Int (codes "2")) ∷ []) ∷ []) ≡
    codes "{\"data\":{\"post\":[{\"title\":\"1\"}]}}" ∷ codes "{\"data\":{\"post\":[]}}" ∷ codes "{\"data\":{\"post\":[{\"title\":\"1\"}]}}" ∷ codes "{\"data\":{\"post\":[]}}" ∷ []
unfolding digits escape_byte
caps = simp (queries, truths, canonical_texts)

orders : map (λ order. (result posts (asked_by (codes "admin") (subscription [] (node (codes "user") (order_by (codes "name") order ∷ []) id))) val.Null four_posts).text)
    (codes "asc" ∷ codes "asc_nulls_first" ∷ codes "asc_nulls_last" ∷ codes "desc" ∷ codes "desc_nulls_first" ∷ codes "desc_nulls_last" ∷ []) ≡
    codes "{\"data\":{\"user\":[{\"id\":1},{\"id\":3},{\"id\":2}]}}"
    ∷ codes "{\"data\":{\"user\":[{\"id\":2},{\"id\":1},{\"id\":3}]}}"
    ∷ codes "{\"data\":{\"user\":[{\"id\":1},{\"id\":3},{\"id\":2}]}}"
    ∷ codes "{\"data\":{\"user\":[{\"id\":2},{\"id\":1},{\"id\":3}]}}"
    ∷ codes "{\"data\":{\"user\":[{\"id\":2},{\"id\":1},{\"id\":3}]}}"
    ∷ codes "{\"data\":{\"user\":[{\"id\":1},{\"id\":3},{\"id\":2}]}}" ∷ []
unfolding digits escape_byte
orders = simp (queries, truths, canonical_texts)

-- ---- the first of several matches, and what a permission's limit isn't for

-- a user's first post; the guest is given no post at a time, and none of title z
abbrev first_post : LinkDef
first_post = record { name = codes "first_post"; many = false; table = 1; from = 0 ∷ []; to = 1 ∷ [] }

abbrev guest : RoleDef
guest = record {
  name = codes "guest";
  session_names = [];
  grants =
      record { table = 0; columns = 0 ∷ []; limit = Some 1; filter = filter.And [] }
      ∷ record { table = 1; columns = 0 ∷ 2 ∷ []; limit = Some 0; filter = filter.And (filter.Cmp 2 compare.Lt (operand.Const (text (codes "z"))) ∷ []) } ∷ [];
}

abbrev guests : Metadata
guests = metadata (user_table ∷ post_table ∷ []) ((posts_link ∷ first_post ∷ []) ∷ (author_link ∷ []) ∷ []) (guest ∷ [])

abbrev guest_posts : Database
guest_posts =
    ((int 1 ∷ val.Null ∷ []) ∷ (int 2 ∷ val.Null ∷ []) ∷ (int 3 ∷ val.Null ∷ []) ∷ [])
    ∷ (post 4 (int 2) (codes "z") ∷ post 5 (int 2) (codes "b") ∷ post 6 (int 2) (codes "a") ∷ []) ∷ []

-- user(where: {id: {_eq: 2}}) { first_post { id } posts { id } }, post_by_pk(id: 5) { id } and post_by_pk(id: 4) { id }
firsts : map (λ f. (result guests (record { kind = sub.Live; role = codes "guest"; selection = subscription [] f; variables = []; session = [] }) val.Null guest_posts).text)
    (node (codes "user") (pair (codes "where") (one (codes "id") (one (codes "_eq") (v.Int (codes "2")))) ∷ []) (node (codes "first_post") [] id ∷ node (codes "posts") [] id ∷ [])
    ∷ node (codes "post_by_pk") (pair (codes "id") (v.Int (codes "5")) ∷ []) id
    ∷ node (codes "post_by_pk") (pair (codes "id") (v.Int (codes "4")) ∷ []) id ∷ []) ≡
    codes "{\"data\":{\"user\":[{\"first_post\":{\"id\":5},\"posts\":[]}]}}" ∷ codes "{\"data\":{\"post_by_pk\":{\"id\":5}}}" ∷ codes "{\"data\":{\"post_by_pk\":null}}" ∷ []
unfolding digits escape_byte
firsts = simp (queries, truths, canonical_texts)

-- ---- a stream that goes down, of a role that is given one row at a time

abbrev down : Flat
down = subscription [] (node (codes "user_stream")
    (pair (codes "batch_size") (v.Int (codes "5")) ∷ cursor_of (pair (codes "ordering") (v.Enum (codes "DESC")) ∷ initial (v.Int (codes "9")) ∷ []) ∷ []) id)

goes_down : map (λ n. result guests (record { kind = sub.Stream; role = codes "guest"; selection = down; variables = []; session = [] }) (int n) guest_posts) (9 ∷ 3 ∷ 1 ∷ []) ≡
    record { text = codes "{\"data\":{\"user_stream\":[{\"id\":3}]}}"; rows = 1; last = int 3 }
    ∷ record { text = codes "{\"data\":{\"user_stream\":[{\"id\":2}]}}"; rows = 1; last = int 2 }
    ∷ record { text = codes "{\"data\":{\"user_stream\":[]}}"; rows = 0; last = val.Null } ∷ []
unfolding digits escape_byte
goes_down = simp (queries, truths, canonical_texts)

-- ---- a key column that is called cursor

abbrev marks : Metadata
marks = metadata (table (codes "mark") (column (codes "cursor") kind.Int false ∷ []) ∷ []) ([] ∷ []) []

abbrev one_mark : Flat
one_mark = subscription [] (node (codes "mark_by_pk") (pair (codes "cursor") (var (codes "c")) ∷ []) (leaf (codes "cursor") ∷ []))

mark_variables : text_variables one_mark ≡ codes "c" ∷ []
mark_variables = simp (queries, canonical_texts)

mark_text : canonical one_mark ≡ codes "subscription mark_by_pk:mark_by_pk(cursor:$c){cursor:cursor}"
mark_text = simp canonical_texts
