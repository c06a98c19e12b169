-- What an operation selects, and what becomes of it.
use Rattle.std.specs.Prelude.{◌≡◌, ◌⊎◌, ◌↔◌, Some, List, false, IsTrue, MatchResult, Result}
use Rattle.std.specs.List.{AllByRecursion}
use Rattle.serde_json.specs.Data.{Members}
use Rattle.request_model.specs.declared.document.Document.{Document}
use Rattle.request_model.specs.declared.document.Selection.{Selection}
use Rattle.request_model.specs.declared.flat.Flat.{Flat}
use Rattle.request_model.specs.declared.flat.FlatFault.{FlatFault}
use Rattle.request_model.specs.declared.flat.FlatFault.TheVariants as fault
use Rattle.scalar_val.specs.declared.word.Word.{Word}
use Rattle.request_model.specs.Selection.{
  Scope,
  Operation,
  collected,
  fields_seen,
  is_large,
  most_levels,
  FieldsConflict,
  HasFault,
  fault_order,
  IsFirst,
  served,
  flat_of,
}
use Rattle.gql_flat.specs.declared.flattening.Whole.{Whole}

-- the conditions and the fields of a selection set, which is not too large
pub record IsWhole (s : Scope) (set : List Selection) (w : Whole) : Type 0 where
  pub conditions : w.conditions ≡ (collected s set).conditions
  pub fields : w.fields ≡ fields_seen s set
  pub small : is_large (fields_seen s set) ≡ false
  pub conflict : IsTrue w.conflict ↔ FieldsConflict s most_levels set

-- the flat selection where no fault holds
pub record IsFlat (d : Document) (values : Members) (o : Operation) (f : Flat) : Type 0 where
  pub word : Word
  pub no_fault : AllByRecursion (λ x. HasFault d values o x → ⊥) fault_order
  pub served_as : served o.word ≡ Some word
  pub is : f ≡ flat_of d values o word

-- the flat selection of an operation, or its first fault, or out of memory
abbrev pub OperationFlattens : Document → Members → Operation → Result Flat FlatFault → Type 0
OperationFlattens d values o r = MatchResult r (λ f. IsFlat d values o f)
    (λ e. (e ≡ fault.NoMemory) ⊎ IsFirst (HasFault d values o) fault_order e)
