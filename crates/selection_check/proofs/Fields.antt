-- Fields that are judged, from one layer to the next.
use Rattle.std.proofs.Common.{◌≡◌, ◌∙◌, ℕ, not, List, [], ◌∷◌, map, Option, Some, None, refl, ap}
use Rattle.role_model.specs.Roles.{View}
use Rattle.request_model.specs.declared.flat.FlatField.{FlatField}
use Rattle.request_model.specs.declared.flat.FlatField.TheOpen.{FlatField-F}
use Rattle.request_model.specs.declared.flat.FlatField.TheViews.{out-FlatField}
use Rattle.request_model.specs.declared.flat.FlatField.TheFolds.{fold_out-FlatField}
use Rattle.query_model.specs.declared.fault.FaultKind.TheVariants as fault
use Rattle.query_model.specs.declared.fault.QueryFault.{QueryFault}
use Rattle.query_model.specs.declared.variable.Variable.{Variable}
use Rattle.query_model.specs.Names.{meant, type_name}
use Rattle.query_model.specs.Refusals.{refused_if, or_then, first_of}
use Rattle.query_model.specs.ArgumentFaults.{arguments_fault, missing_fault}
use Rattle.query_model.specs.Walk.{FieldJudged, conditions_fault, field_fault, field_fault_step, judging, meant_fault, object_fault}
use Rattle.selection_check.specs.declared.arguments.Arguments.{Arguments}
use Rattle.selection_check.specs.Known.{known_by, required_by}
use Rattle.selection_check.specs.Own.{own_fault}

after_four : (a b c d : Option QueryFault) (es : List (Option QueryFault))
    → first_of (a ∷ b ∷ c ∷ d ∷ es) ≡ or_then (first_of (a ∷ b ∷ c ∷ d ∷ [])) (first_of es)
after_four (Some x) b c d es = refl
after_four None (Some x) c d es = refl
after_four None None (Some x) d es = refl
after_four None None None (Some x) es = refl
after_four None None None None es = refl

module _ (vars : List Variable) (w : View) (table : ℕ) where
  each : (fs : List FlatField)
      → first_of (map (λ (g : FieldJudged). g table) (map (field_fault vars w) fs))
      ≡ first_of (map (λ f. field_fault vars w f table) fs)
  each [] = refl
  each (f ∷ fs) = ap (λ (o : Option QueryFault). or_then (field_fault vars w f table) o) (each fs)

  -- what is wrong with an object's field itself comes before what is wrong with its fields
  pub object-is : (known : Arguments) (f : FlatField-F FlatField)
      → object_fault vars w (known_by vars w table known) (required_by vars w table known) table (judging vars w f)
      ≡ or_then (own_fault vars w table known f) (first_of (map (λ g. field_fault vars w g table) f.fields))
  object-is known f =
      after_four (refused_if (not f.nested) fault.WrongType f.name)
      (arguments_fault vars w (known_by vars w table known) f.args)
      (missing_fault vars w (required_by vars w table known) f.args)
      (conditions_fault vars w (type_name w table) f.conditions)
      (map (λ (g : FieldJudged). g table) (map (field_fault vars w) f.fields))
      ∙ ap (λ (o : Option QueryFault). or_then (own_fault vars w table known f) o) (each f.fields)

  pub field-is : (f : FlatField)
      → field_fault vars w f table
      ≡ meant_fault vars w (judging vars w (out-FlatField f)) (meant w table (out-FlatField f).name)
  field-is f = ap (λ (g : FieldJudged). g table) (fold_out-FlatField FieldJudged (field_fault_step vars w) f)
