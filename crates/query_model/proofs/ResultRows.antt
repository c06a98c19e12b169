-- Worked rows of results.
use Rattle.std.proofs.Common.{◌≡◌, ℕ, zero, suc, ◌+◌, List, [], ◌∷◌, ◌++◌, map, None, Ok, true, false, pos, neg_ℤ}
use Rattle.std.specs.Prelude.{codes}
use Rattle.std.specs.Fmt.{digits}
use Rattle.json.specs.Print.{escape_byte}
use Rattle.serde_json.specs.Data.{number, unsigned, no_members, member}
use Rattle.scalar_val.specs.declared.val.Kind.TheVariants as kind
use Rattle.scalar_val.specs.declared.val.Val.{Val}
use Rattle.scalar_val.specs.declared.val.Val.TheVariants as val
use Rattle.data_model.specs.Rows.{Database}
use Rattle.plan_model.specs.declared.filter.Filter.{Filter}
use Rattle.plan_model.specs.declared.filter.Filter.TheVariants as filter
use Rattle.plan_model.specs.declared.filter.Op.TheVariants as compare
use Rattle.plan_model.specs.declared.filter.Operand.TheVariants as operand
use Rattle.plan_model.specs.declared.filter.Slot.TheVariants.{One}
use Rattle.role_model.specs.declared.metadata.Metadata.{Metadata}
use Rattle.plan_model.proofs.Truths.{truths}
use Rattle.request_model.specs.declared.document.GValue.TheVariants as v
use Rattle.request_model.specs.declared.document.TypeRef.TheVariants as type
use Rattle.request_model.specs.declared.flat.FlatField.TheViews.{out-roll-FlatField}
use Rattle.request_model.specs.declared.flat.Flat.{Flat}
use Rattle.request_model.specs.Strings.{Text}
use Rattle.request_model.specs.Canonical.{canonical}
use Rattle.request_model.proofs.SelectionRules.{canonical_texts}
use Rattle.query_model.specs.declared.kind.SubKind.TheVariants as sub
use Rattle.query_model.specs.Conditions.{conditions_in}
use Rattle.query_model.specs.Queries.{Query, binding_of}
use Rattle.query_model.specs.Admission.{admitted}
use Rattle.plan_model.specs.Outcomes.{Outcome}
use Rattle.query_model.specs.Results.{result, view, values}
use Rattle.query_model.proofs.QueryRules.{queries, not-one, fold-in, fold-at}
use Rattle.query_model.proofs.Samples.{metadata, table, column, users, posts, admin, reader_with, leaf, node, subscription, pair, one, order_by, int, text, post}

abbrev live : Flat → Query
live s = record { kind = sub.Live; role = codes "admin"; selection = s; variables = []; session = [] }

-- users 1 Ann and 2 without a name; posts 1 and 2 of author 1, 3 of author 2, 4 without an author
abbrev four_posts : Database
four_posts =
    ((int 1 ∷ text (codes "Ann") ∷ []) ∷ (int 2 ∷ val.Null ∷ []) ∷ [])
    ∷ (post 1 (int 1) (codes "a") ∷ post 2 (int 1) (codes "b") ∷ post 3 (int 2) (codes "c") ∷ post 4 val.Null (codes "d") ∷ [])
    ∷ []

-- subscription { user(order_by: {name: desc}) { id posts(limit: 1, order_by: {id: desc}) { id } } }
abbrev last_posts : Flat
last_posts = subscription []
    (node (codes "user") (order_by (codes "name") (codes "desc") ∷ [])
    (leaf (codes "id") ∷ node (codes "posts") (pair (codes "limit") (v.Int (codes "1")) ∷ order_by (codes "id") (codes "desc") ∷ []) (leaf (codes "id") ∷ []) ∷ []))

nulls_and_limits : (result posts (live last_posts) val.Null four_posts).text ≡ codes "{\"data\":{\"user\":[{\"id\":2,\"posts\":[{\"id\":3}]},{\"id\":1,\"posts\":[{\"id\":2}]}]}}"
unfolding digits escape_byte
nulls_and_limits = simp (queries, truths, canonical_texts)

-- subscription { post(where: {_not: {author_id: {_eq: 1}}}) { id author { id } } }
abbrev others_posts : Flat
others_posts = subscription []
    (node (codes "post") (pair (codes "where") (one (codes "_not") (one (codes "author_id") (one (codes "_eq") (v.Int (codes "1"))))) ∷ [])
    (leaf (codes "id") ∷ node (codes "author") [] (leaf (codes "id") ∷ []) ∷ []))

abbrev where_first : Filter
where_first = filter.And (filter.And (filter.Cmp 1 compare.Eq (operand.Const (int 1)) ∷ []) ∷ [])

first_author : (conditions_in (view posts (live others_posts)) (values posts (live others_posts)) (one (codes "author_id") (one (codes "_eq") (v.Int (codes "1"))))).one 1 ≡ where_first
first_author = simp (queries, canonical_texts)

not_first_author : (conditions_in (view posts (live others_posts)) (values posts (live others_posts)) (one (codes "_not") (one (codes "author_id") (one (codes "_eq") (v.Int (codes "1")))))).one 1 ≡ filter.And (filter.Not where_first ∷ [])
not_first_author = not-one _ _ _ 1 where_first first_author

unknown_under_not : (result posts (live others_posts) val.Null four_posts).text ≡ codes "{\"data\":{\"post\":[{\"id\":3,\"author\":{\"id\":2}}]}}"
unfolding digits escape_byte
unknown_under_not = simp (not_first_author, fold-in, fold-at, out-roll-FlatField, truths, canonical_texts)

-- subscription { post_by_pk(id: 4) { id author { id } } }
abbrev by_key : Flat
by_key = subscription []
    (node (codes "post_by_pk") (pair (codes "id") (v.Int (codes "4")) ∷ []) (leaf (codes "id") ∷ node (codes "author") [] (leaf (codes "id") ∷ []) ∷ []))

no_author : (result posts (live by_key) val.Null four_posts).text ≡ codes "{\"data\":{\"post_by_pk\":{\"id\":4,\"author\":null}}}"
unfolding digits escape_byte
no_author = simp (queries, truths, canonical_texts)

-- ---- the ends of bigint, and escapes

abbrev notes : Metadata
notes = metadata (table (codes "k") (column (codes "id") kind.Big false ∷ column (codes "body") kind.Text false ∷ []) ∷ []) ([] ∷ []) []

abbrev two_notes : Database
two_notes = ((val.Big (neg_ℤ (pos 9223372036854775808)) ∷ text [] ∷ []) ∷ (val.Big (pos 9223372036854775807) ∷ text (34 ∷ 1 ∷ []) ∷ []) ∷ []) ∷ []

abbrev all_notes : Flat
all_notes = subscription [] (node (codes "k") [] (leaf (codes "id") ∷ leaf (codes "body") ∷ []))

ends_and_escapes : (result notes (live all_notes) val.Null two_notes).text ≡
    codes "{\"data\":{\"k\":[{\"id\":-9223372036854775808,\"body\":\"\"},{\"id\":9223372036854775807,\"body\":\"\\\"\\u0001\"}]}}"
unfolding digits escape_byte
ends_and_escapes = simp (queries, truths, canonical_texts)

-- ---- a stream passes over equal cursor values that its batch has no room for

abbrev stream : Flat → Query
stream s = record { kind = sub.Stream; role = codes "admin"; selection = s; variables = []; session = [] }

abbrev titles : Database
titles = [] ∷ (post 1 val.Null (codes "t") ∷ post 2 val.Null (codes "t") ∷ post 3 val.Null (codes "u") ∷ []) ∷ []

-- subscription { post_stream(batch_size: 1, cursor: [{initial_value: {title: ""}, ordering: ASC}]) { id title } }
abbrev by_title : Flat
by_title = subscription []
    (node (codes "post_stream")
    (pair (codes "batch_size") (v.Int (codes "1"))
    ∷ pair (codes "cursor") (v.Many (v.Object (pair (codes "initial_value") (one (codes "title") (v.Text [])) ∷ pair (codes "ordering") (v.Enum (codes "ASC")) ∷ []) ∷ [])) ∷ [])
    (leaf (codes "id") ∷ leaf (codes "title") ∷ []))

abbrev answer : Text → ℕ → Val → Outcome
answer t rows last = record { text = t; rows = rows; last = last }

equal_cursor_values : map (λ cursor. result posts (stream by_title) cursor titles) (text [] ∷ text (codes "t") ∷ text (codes "u") ∷ []) ≡
    answer (codes "{\"data\":{\"post_stream\":[{\"id\":1,\"title\":\"t\"}]}}") 1 (text (codes "t"))
    ∷ answer (codes "{\"data\":{\"post_stream\":[{\"id\":3,\"title\":\"u\"}]}}") 1 (text (codes "u"))
    ∷ answer (codes "{\"data\":{\"post_stream\":[]}}") 0 val.Null ∷ []
unfolding digits escape_byte
equal_cursor_values = simp (queries, truths, canonical_texts)

-- ---- streams that meet: the initial value is in neither the text nor the binding

abbrev up_to : ℕ → List ℕ
up_to zero = []
up_to (suc n) = up_to n ++ (n + 1) ∷ []

abbrev first_users : ℕ → Database
first_users n = map (λ id. int id ∷ val.Null ∷ []) (up_to n) ∷ []

-- subscription($f: Int!) { user_stream(batch_size: 5, cursor: {initial_value: {id: $f}}) { id } }
abbrev user_stream : Flat
user_stream = subscription (record { name = codes "f"; kind = type.Named (codes "Int") true; default = None; directives = [] } ∷ [])
    (node (codes "user_stream") (pair (codes "batch_size") (v.Int (codes "5")) ∷ pair (codes "cursor") (one (codes "initial_value") (one (codes "id") (v.Var (codes "f")))) ∷ []) (leaf (codes "id") ∷ []))

abbrev stream_from : ℕ → Query
stream_from n = record {
  kind = sub.Stream;
  role = codes "admin";
  selection = user_stream;
  session = [];
  variables = record { name = codes "f"; type_ = record { kind = kind.Int; listed = false; strict = true; strict_item = false }; value = One (int n) } ∷ [];
}

admitted_streams : map (λ n. admitted users admin (member (codes "f") (number (unsigned n)) no_members) user_stream) (0 ∷ 5 ∷ []) ≡
    map (λ n. Ok (record { query = stream_from n; cursor = int n })) (0 ∷ 5 ∷ [])
admitted_streams = simp (queries, truths, canonical_texts)

stream_text : canonical user_stream ≡ codes "subscription user_stream:user_stream(batch_size:5,cursor:{initial_value:{id:_}}){id:id}"
stream_text = simp canonical_texts

-- when the first has sent its rows, both have one cursor and so one binding
streams_meet : map {A = ℕ} (λ n. binding_of (stream_from n) (int 5)) (0 ∷ 5 ∷ []) ≡
    map {A = ℕ} (λ n. record { vars = []; session = []; cursor = int 5 }) (0 ∷ 5 ∷ [])
streams_meet = simp (queries, canonical_texts)

stream_results :
    (result users (stream_from 0) (int 0) (first_users 5) ≡ answer (codes "{\"data\":{\"user_stream\":[{\"id\":1},{\"id\":2},{\"id\":3},{\"id\":4},{\"id\":5}]}}") 5 (int 5))
    × (result users (stream_from 5) (int 5) (first_users 5) ≡ answer (codes "{\"data\":{\"user_stream\":[]}}") 0 val.Null)
    × (result users (stream_from 0) (int 5) (first_users 6) ≡ answer (codes "{\"data\":{\"user_stream\":[{\"id\":6}]}}") 1 (int 6))
unfolding digits escape_byte
stream_results = (simp (queries, truths, canonical_texts), simp (queries, truths, canonical_texts), simp (queries, truths, canonical_texts))

-- ---- a role's filter: two readers with one query

-- subscription { post { id title } }
abbrev all_posts : Flat
all_posts = subscription [] (node (codes "post") [] (leaf (codes "id") ∷ leaf (codes "title") ∷ []))

abbrev read_by : ℕ → Query
read_by n = record {
  kind = sub.Live;
  role = codes "reader";
  selection = all_posts;
  variables = [];
  session = record { slot = record { name = codes "x-hasura-user-id"; kind = kind.Int }; value = int n } ∷ [];
}

admitted_readers : map (λ id. admitted posts (reader_with id) no_members all_posts) (codes "1" ∷ codes "2" ∷ []) ≡ map (λ n. Ok (record { query = read_by n; cursor = val.Null })) (1 ∷ 2 ∷ [])
admitted_readers = simp (queries, truths, canonical_texts)

two_readers : map (λ n. (result posts (read_by n) val.Null ([] ∷ (post 1 (int 1) (codes "x") ∷ post 2 (int 2) (codes "y") ∷ []) ∷ [])).text) (1 ∷ 2 ∷ []) ≡
    codes "{\"data\":{\"post\":[{\"id\":1,\"title\":\"x\"}]}}" ∷ codes "{\"data\":{\"post\":[{\"id\":2,\"title\":\"y\"}]}}" ∷ []
unfolding digits escape_byte
two_readers = simp (queries, truths, canonical_texts)
