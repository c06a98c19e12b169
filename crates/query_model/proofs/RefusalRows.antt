-- Worked rows of the order of refusals.
use Rattle.std.proofs.Common.{◌≡◌, List, [], ◌∷◌, map, Option, None, true, false, refl}
use Rattle.std.specs.Prelude.{codes}
use Rattle.serde_json.specs.Data.{no_members}
use Rattle.request_model.specs.declared.document.GValue.TheVariants as v
use Rattle.request_model.specs.declared.document.GPair.{GPair}
use Rattle.request_model.specs.declared.document.TypeRef.TheVariants as type
use Rattle.request_model.specs.declared.document.VarDef.{VarDef}
use Rattle.request_model.specs.declared.flat.FlatField.{FlatField}
use Rattle.request_model.specs.declared.flat.FlatField.TheViews.{roll-FlatField}
use Rattle.scalar_val.specs.declared.word.Word.TheVariants as word
use Rattle.request_model.specs.Strings.{Text}
use Rattle.request_model.proofs.SelectionRules.{canonical_texts}
use Rattle.query_model.specs.declared.fault.FaultKind.TheVariants as fault
use Rattle.query_model.specs.declared.fault.QueryFault.{QueryFault}
use Rattle.query_model.specs.Admission.{admitted}
use Rattle.query_model.proofs.QueryRules.{queries}
use Rattle.query_model.proofs.Samples.{posts, admin, leaf, node, subscription, pair, refused_with, refuses, id}

abbrev answer : List VarDef → FlatField → Option QueryFault
answer vars f = refused_with (admitted posts admin no_members (subscription vars f))

-- a field with these arguments and type conditions, with a selection or without one
abbrev bare : Text → List GPair → FlatField
bare name args =
    roll-FlatField (record { key = name; name = name; args = args; nested = false; conditions = []; fields = [] })

abbrev on : List Text → Text → List GPair → List FlatField → FlatField
on conditions name args fields =
    roll-FlatField (record {
      key = name;
      name = name;
      args = args;
      nested = true;
      conditions = conditions;
      fields = fields;
    })

abbrev nope : GPair
nope = pair (codes "nope") (v.Int (codes "1"))

-- ---- a field: its sub-selection, then its arguments, then the missing ones, then type conditions, then its fields

-- { user(nope: 1) }, { user { posts(nope: 1) } }, { user { id(nope: 1) { id } } } and
-- { user { __typename(nope: 1) { id } } }
selection_before_arguments : map (answer [])
    (bare (codes "user") (nope ∷ [])
    ∷ node (codes "user") [] (bare (codes "posts") (nope ∷ []) ∷ [])
    ∷ node (codes "user") [] (node (codes "id") (nope ∷ []) id ∷ [])
    ∷ node (codes "user") [] (node (codes "__typename") (nope ∷ []) id ∷ []) ∷ []) ≡
    refuses fault.WrongType (codes "user") ∷ refuses fault.WrongType (codes "posts")
    ∷ refuses fault.WrongType (codes "id") ∷ refuses fault.WrongType (codes "__typename") ∷ []
selection_before_arguments = simp queries

-- a bad argument before a missing one: { user_by_pk(nope: 1) { id } }
-- a missing one before a type condition: { user_by_pk { ... on post { id } } }
-- both keys of a stream are missing: { user_stream { ... on post { id } } }, and the second alone
-- a type condition before a field: { user_by_pk(id: 1) { ... on post { nope } } }
then_in_order : map (answer [])
    (node (codes "user_by_pk") (nope ∷ []) id
    ∷ on (codes "post" ∷ []) (codes "user_by_pk") [] id
    ∷ on (codes "post" ∷ []) (codes "user_stream") [] id
    ∷ on (codes "post" ∷ []) (codes "user_stream") (pair (codes "batch_size") (v.Int (codes "1")) ∷ []) id
    ∷ on (codes "post" ∷ []) (codes "user_by_pk") (pair (codes "id") (v.Int (codes "1")) ∷ [])
    (leaf (codes "nope") ∷ [])
    ∷ []) ≡
    refuses fault.NoArgument (codes "nope")
    ∷ refuses fault.NoArgument (codes "id")
    ∷ refuses fault.NoArgument (codes "batch_size")
    ∷ refuses fault.NoArgument (codes "cursor")
    ∷ refuses fault.NoField (codes "post") ∷ []
then_in_order = simp (queries, canonical_texts)

-- ---- one root field, then variables, then the walk

abbrev declares : Text → Text → VarDef
declares name type_name = record { name = name; kind = type.Named type_name true; default = None; directives = [] }

-- subscription($a: Int!) { user { id } post { id } }, and with no field
abbrev with_fields : List FlatField → Option QueryFault
with_fields fields = refused_with (admitted posts admin no_members (record {
  kind = word.Subscription;
  vars = declares (codes "a") (codes "Int") ∷ [];
  conditions = [];
  fields = fields;
}))

one_root_first : map with_fields ((node (codes "user") [] id ∷ node (codes "post") [] id ∷ []) ∷ [] ∷ []) ≡
    refuses fault.NotOneRoot [] ∷ refuses fault.NotOneRoot [] ∷ []
one_root_first = refl

-- ($a: Int!, $b: int!) and ($b: int!, $a: Int!), before a field that isn't there
first_variable : map (λ vars. answer vars (leaf (codes "nope")))
    ((declares (codes "a") (codes "Int") ∷ declares (codes "b") (codes "int") ∷ [])
    ∷ (declares (codes "b") (codes "int") ∷ declares (codes "a") (codes "Int") ∷ []) ∷ [] ∷ []) ≡
    refuses fault.MissingVariable (codes "a") ∷ refuses fault.WrongType (codes "b")
    ∷ refuses fault.NoField (codes "nope") ∷ []
first_variable = simp queries
