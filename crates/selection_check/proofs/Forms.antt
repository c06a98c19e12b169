-- Literals, and values in their forms.
use Rattle.std.proofs.Common.{◌≡◌, ◌∙◌, ℕ, ℤ, false, not, List, [], Option, Some, None, is_some, is_none, option_map, option_and_then, refl, ap, sym}
use Rattle.scalar_val.specs.declared.val.Kind.{Kind}
use Rattle.scalar_val.specs.declared.val.Val.{Val}
use Rattle.scalar_val.specs.declared.val.Val.TheVariants as val
use Rattle.scalar_val.specs.Spellings.{fitted, integer_spelled}
use Rattle.role_model.specs.Roles.{View}
use Rattle.request_model.specs.declared.document.GValue.{GValue}
use Rattle.request_model.specs.declared.document.GValue.TheVariants as v
use Rattle.request_model.specs.declared.document.GValue.TheVariants.{rolls-Var, rolls-Null}
use Rattle.request_model.specs.declared.document.GValue.TheOpen.{GValue-F}
use Rattle.request_model.specs.declared.document.GValue.TheViews.{out-GValue, roll-GValue, roll-out-GValue, outs-Object}
use Rattle.request_model.specs.declared.document.GPair.{GPair}
use Rattle.request_model.specs.Strings.{Text}
use Rattle.query_model.specs.declared.fault.FaultKind.TheVariants as fault
use Rattle.query_model.specs.declared.fault.QueryFault.{QueryFault}
use Rattle.query_model.specs.declared.variable.Variable.{Variable}
use Rattle.query_model.specs.Names.{kind_of, literal, literal_by, variable_by}
use Rattle.query_model.specs.Refusals.{refusal, refused_if, pairs_fault}
use Rattle.query_model.specs.ValueFaults.{by_variable, null_slot_fault, literal_fault, single_fault}
use Rattle.query_model.specs.ConditionFaults.{operator_fault, column_fault}

none_not : {A : Type 0} (o : Option A) → is_none o ≡ not (is_some o)
none_not None = refl
none_not (Some x) = refl

module _ (vars : List Variable) (place : Text) (k : Kind) where
  -- the fault of what no kind takes
  abbrev unfit : Option Val → Option QueryFault
  unfit o = refused_if (not (is_some (option_and_then (fitted k) o))) fault.WrongType place

  misfit : (x : Val) → refused_if (is_none (fitted k x)) fault.WrongType place ≡ unfit (Some x)
  misfit x = ap (λ b. refused_if b fault.WrongType place) (none_not (fitted k x))

  integer : (o : Option ℤ) → literal_fault vars place k (option_map val.Big o) ≡ unfit (option_map val.Big o)
  integer None = refl
  integer (Some z) = misfit (val.Big z)

  by_form : (x : GValue) → ((name : Text) → x ≡ v.Var name → ⊥) → (x ≡ v.Null → ⊥)
      → (f : GValue-F GValue GPair) → x ≡ roll-GValue f
      → by_variable vars false k (null_slot_fault vars place) (literal_fault vars place k (literal_by f)) (variable_by f)
      ≡ unfit (literal_by f)
  by_form x h n (GValue-F.Var name) is = absurd (h name (is ∙ rolls-Var name))
  by_form x h n GValue-F.Null is = absurd (n (is ∙ rolls-Null))
  by_form x h n (GValue-F.Int digits) is = integer (integer_spelled 63 digits)
  by_form x h n (GValue-F.Text s) is = misfit (val.Text s)
  by_form x h n (GValue-F.Bool b) is = misfit (val.Bool b)
  by_form x h n (GValue-F.Enum name) is = refl
  by_form x h n (GValue-F.Many items) is = refl
  by_form x h n (GValue-F.Object pairs) is = refl

  -- a value that is no variable and not null
  pub single-literal : (x : GValue) → ((name : Text) → x ≡ v.Var name → ⊥) → (x ≡ v.Null → ⊥)
      → single_fault vars place k x ≡ unfit (literal x)
  single-literal x h n = by_form x h n (out-GValue x) (sym (roll-out-GValue x))

pub column-Object : (vars : List Variable) (w : View) (table : ℕ) (name : Text) (column : ℕ) (pairs : List GPair)
    → column_fault vars w table name (v.Object pairs) (Some column)
    ≡ pairs_fault (λ other. refusal fault.WrongType name) (operator_fault vars w name (kind_of w table column)) [] pairs
column-Object vars w table name column pairs = simp outs-Object
