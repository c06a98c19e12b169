-- Worked rows of orders, relationships, single rows, query operations and session slots.
use Rattle.std.proofs.Common.{◌≡◌, List, [], ◌∷◌, ◌++◌, map, Some, None, Ok, false, true}
use Rattle.std.specs.Prelude.{codes}
use Rattle.std.specs.Fmt.{digits}
use Rattle.json.specs.Print.{escape_byte}
use Rattle.serde_json.specs.Data.{no_members}
use Rattle.scalar_val.specs.declared.val.Kind.{Kind}
use Rattle.scalar_val.specs.declared.val.Kind.TheVariants as kind
use Rattle.scalar_val.specs.declared.val.Val.TheVariants as val
use Rattle.data_model.specs.declared.catalog.Column.{Column}
use Rattle.data_model.specs.Rows.{Database}
use Rattle.plan_model.specs.declared.filter.Filter.TheVariants as filter
use Rattle.plan_model.specs.declared.filter.Op.TheVariants as compare
use Rattle.plan_model.specs.declared.filter.Operand.TheVariants as operand
use Rattle.role_model.specs.declared.metadata.LinkDef.{LinkDef}
use Rattle.role_model.specs.declared.metadata.Metadata.{Metadata}
use Rattle.role_model.specs.declared.metadata.RoleDef.{RoleDef}
use Rattle.plan_model.specs.declared.plan.Field.TheVariants as field
use Rattle.plan_model.specs.declared.plan.Field.TheViews.{roll-Select}
use Rattle.plan_model.specs.declared.plan.Plan.{Plan}
use Rattle.plan_model.specs.declared.plan.Shape.TheVariants as shape
use Rattle.role_model.specs.Roles.{View}
use Rattle.plan_model.proofs.Truths.{truths}
use Rattle.request_model.specs.declared.document.GValue.{GValue}
use Rattle.request_model.specs.declared.document.GValue.TheVariants as v
use Rattle.request_model.specs.declared.flat.FlatField.{FlatField}
use Rattle.request_model.specs.declared.flat.Flat.{Flat}
use Rattle.scalar_val.specs.declared.word.Word.TheVariants as word
use Rattle.request_model.specs.Strings.{Text}
use Rattle.request_model.proofs.SelectionRules.{canonical_texts}
use Rattle.query_model.specs.declared.kind.SubKind.{SubKind}
use Rattle.query_model.specs.declared.kind.SubKind.TheVariants as sub
use Rattle.query_model.specs.declared.session.SessionSlot.{SessionSlot}
use Rattle.query_model.specs.Queries.{Query, selection_slots}
use Rattle.query_model.specs.Admission.{admitted}
use Rattle.query_model.specs.Plans.{plan_of}
use Rattle.query_model.specs.Results.{result}
use Rattle.query_model.proofs.QueryRules.{queries}
use Rattle.query_model.proofs.Samples.{metadata, table, column, user_table, users, admin, leaf, node, subscription, pair, one, int, text, id}

abbrev asked_by : Text → FlatField → Query
asked_by role f = record { kind = sub.Live; role = role; selection = subscription [] f; variables = []; session = [] }

-- ---- the second entry of an order: users 1 Ann, 2 without a name and 3 Ann

abbrev two_Anns : Database
two_Anns =
    ((int 1 ∷ text (codes "Ann") ∷ []) ∷ (int 2 ∷ val.Null ∷ []) ∷ (int 3 ∷ text (codes "Ann") ∷ []) ∷ []) ∷ []

-- order_by: [{name: asc}, {id: desc}], {name: asc, id: desc}, [{name: asc}, {id: asc}] and [{id: desc}, {name: asc}]
second_entries : map (λ x. (result users
    (asked_by (codes "admin") (node (codes "user") (pair (codes "order_by") x ∷ []) id)) val.Null two_Anns).text)
    (v.Many (one (codes "name") (v.Enum (codes "asc")) ∷ one (codes "id") (v.Enum (codes "desc")) ∷ [])
    ∷ v.Object (pair (codes "name") (v.Enum (codes "asc")) ∷ pair (codes "id") (v.Enum (codes "desc")) ∷ [])
    ∷ v.Many (one (codes "name") (v.Enum (codes "asc")) ∷ one (codes "id") (v.Enum (codes "asc")) ∷ [])
    ∷ v.Many (one (codes "id") (v.Enum (codes "desc")) ∷ one (codes "name") (v.Enum (codes "asc")) ∷ []) ∷ []) ≡
    codes "{\"data\":{\"user\":[{\"id\":3},{\"id\":1},{\"id\":2}]}}"
    ∷ codes "{\"data\":{\"user\":[{\"id\":3},{\"id\":1},{\"id\":2}]}}"
    ∷ codes "{\"data\":{\"user\":[{\"id\":1},{\"id\":3},{\"id\":2}]}}"
    ∷ codes "{\"data\":{\"user\":[{\"id\":3},{\"id\":2},{\"id\":1}]}}" ∷ []
unfolding digits escape_byte
second_entries = simp (queries, truths, canonical_texts)

-- ---- a relationship of two pairs of columns: the tickets of a seat, of its row and its number

abbrev placed : Text → LinkDef
placed name = record { name = name; many = true; table = 1; from = 1 ∷ 2 ∷ []; to = 1 ∷ 2 ∷ [] }

abbrev place_columns : List Column
place_columns =
    column (codes "id") kind.Int false ∷ column (codes "row") kind.Int true ∷ column (codes "number") kind.Int true ∷ []

abbrev seats : Metadata
seats = metadata (table (codes "seat") place_columns ∷ table (codes "ticket") place_columns ∷ [])
    ((placed (codes "tickets") ∷ []) ∷ [] ∷ []) []

-- of the four seats the last has no number; of the four tickets the last has none either
abbrev sold : Database
sold =
    ((int 1 ∷ int 1 ∷ int 1 ∷ []) ∷ (int 2 ∷ int 1 ∷ int 2 ∷ []) ∷ (int 3 ∷ int 2 ∷ int 2 ∷ [])
    ∷ (int 4 ∷ int 2 ∷ val.Null ∷ []) ∷ [])
    ∷ ((int 1 ∷ int 1 ∷ int 1 ∷ []) ∷ (int 2 ∷ int 1 ∷ int 2 ∷ []) ∷ (int 3 ∷ int 2 ∷ int 1 ∷ [])
    ∷ (int 4 ∷ int 2 ∷ val.Null ∷ []) ∷ [])
    ∷ []

two_pairs : (result seats
    (asked_by (codes "admin") (node (codes "seat") [] (leaf (codes "id") ∷ node (codes "tickets") [] id ∷ [])))
    val.Null sold).text ≡
    codes "{\"data\":{\"seat\":[{\"id\":1,\"tickets\":[{\"id\":1}]},{\"id\":2,\"tickets\":[{\"id\":2}]}," ++
    codes "{\"id\":3,\"tickets\":[]},{\"id\":4,\"tickets\":[]}]}}"
unfolding digits escape_byte
two_pairs = simp (queries, truths, canonical_texts)

-- ---- a permission's limit is for lists and streams alone: the guest is given no user at a time

abbrev guest : RoleDef
guest = record {
  name = codes "guest";
  session_names = [];
  grants = record { table = 0; columns = 0 ∷ 1 ∷ []; limit = Some 0; filter = filter.And [] } ∷ [];
}

abbrev guests : Metadata
guests = metadata (user_table ∷ []) ([] ∷ []) (guest ∷ [])

abbrev as_guest : View
as_guest = record { metadata = guests; role = codes "guest" }

-- subscription { user_by_pk(id: 1) { id } } and subscription { user { id } }
abbrev by_key : FlatField
by_key = node (codes "user_by_pk") (pair (codes "id") (v.Int (codes "1")) ∷ []) id

capped : map (λ f. (result guests (asked_by (codes "guest") f) val.Null two_Anns).text)
    (by_key ∷ node (codes "user") [] id ∷ []) ≡
    codes "{\"data\":{\"user_by_pk\":{\"id\":1}}}" ∷ codes "{\"data\":{\"user\":[]}}" ∷ []
unfolding digits escape_byte
capped = simp (queries, truths, canonical_texts)

-- the plan of the row of a key has no limit either
abbrev key_plan : Plan
key_plan = record {
  key = codes "user_by_pk";
  names = codes "user" ∷ [];
  root = roll-Select (record {
    table = 0;
    shape = shape.One;
    filter = filter.And (filter.Cmp 0 compare.Eq (operand.Const (int 1)) ∷ filter.And [] ∷ []);
    order = [];
    limit = None;
    offset = None;
    cap = None;
    fields = field.Column (codes "id") 0 ∷ [];
  });
}

planned_without_cap : plan_of as_guest (subscription [] by_key) ≡ Some key_plan
planned_without_cap = simp (queries, canonical_texts)

-- ---- a query operation is answered once, a subscription is live, and one with a cursor is a stream

-- query { user { id } }
abbrev all_users : Flat
all_users = record { kind = word.Query; vars = []; conditions = []; fields = node (codes "user") [] id ∷ [] }

abbrev kept : SubKind → Flat → Query
kept k s = record { kind = k; role = codes "admin"; selection = s; variables = []; session = [] }

answered_once : admitted users admin no_members all_users ≡
    Ok (record { query = kept sub.Once all_users; cursor = val.Null })
answered_once = simp (queries, canonical_texts)

kept_live : admitted users admin no_members (subscription [] (node (codes "user") [] id)) ≡
    Ok (record { query = kept sub.Live (subscription [] (node (codes "user") [] id)); cursor = val.Null })
kept_live = simp (queries, canonical_texts)

-- subscription { user_stream(batch_size: 1, cursor: {initial_value: {id: 7}}) { id } }
abbrev streamed : Flat
streamed = subscription [] (node (codes "user_stream")
    (pair (codes "batch_size") (v.Int (codes "1"))
    ∷ pair (codes "cursor") (one (codes "initial_value") (one (codes "id") (v.Int (codes "7")))) ∷ []) id)

sent_on : admitted users admin no_members streamed ≡ Ok (record { query = kept sub.Stream streamed; cursor = int 7 })
sent_on = simp (queries, canonical_texts)

-- ---- the slots of one session variable, by kind: boolean, int, bigint, text and uuid

abbrev all_kinds : Metadata
all_kinds = metadata
    (table (codes "t")
    (column (codes "id") kind.Int false ∷ column (codes "u") kind.Uuid true ∷ column (codes "x") kind.Text true
    ∷ column (codes "b") kind.Bool true ∷ column (codes "g") kind.Big true ∷ []) ∷ [])
    ([] ∷ [])
    (record {
      name = codes "r";
      session_names = codes "x-hasura-v" ∷ [];
      grants = record {
        table = 0;
        columns = 0 ∷ [];
        limit = None;
        filter = filter.And (
            filter.Cmp 1 compare.Eq (operand.Sess 0) ∷ filter.Cmp 2 compare.Eq (operand.Sess 0)
            ∷ filter.Cmp 0 compare.Eq (operand.Sess 0) ∷ filter.Cmp 4 compare.Eq (operand.Sess 0)
            ∷ filter.Cmp 3 compare.Eq (operand.Sess 0) ∷ []);
      } ∷ [];
    } ∷ [])

abbrev slot : Kind → SessionSlot
slot k = record { name = codes "x-hasura-v"; kind = k }

by_kind : selection_slots (record { metadata = all_kinds; role = codes "r" })
    (subscription [] (node (codes "t") [] id)) ≡
    slot kind.Bool ∷ slot kind.Int ∷ slot kind.Big ∷ slot kind.Text ∷ slot kind.Uuid ∷ []
by_kind = simp queries
