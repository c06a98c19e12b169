-- Worked rows of the truth of a condition: one row, whose first column is 1 and whose second is null.
use Rattle.std.proofs.Common.{◌≡◌, List, [], ◌∷◌, true, false, pos}
use Rattle.scalar_val.specs.declared.val.Val.{Val}
use Rattle.scalar_val.specs.declared.val.Val.TheVariants as val
use Rattle.plan_model.specs.declared.filter.Binding.{Binding}
use Rattle.plan_model.specs.declared.filter.Filter.{Filter}
use Rattle.plan_model.specs.declared.filter.Filter.TheVariants.{And, Or, Not, Cmp, Among, IsNull}
use Rattle.plan_model.specs.declared.filter.Items.TheVariants as items
use Rattle.plan_model.specs.declared.filter.Slot.TheVariants.{One, Many}
use Rattle.plan_model.specs.declared.filter.Op.TheVariants.{Eq, Neq, Gt}
use Rattle.plan_model.specs.declared.filter.Operand.TheVariants.{Const, Var, Sess}
use Rattle.plan_model.specs.declared.filter.TruthValue.TheVariants.{Yes, No, Unknown}
use Rattle.plan_model.specs.Truth.{truth_of}
use Rattle.plan_model.proofs.Truths.{truths}

abbrev row : List Val
row = val.Int (pos 1) ∷ val.Null ∷ []

abbrev values : Binding
values = record {
  vars = One (val.Int (pos 1)) ∷ Many (val.Int (pos 2) ∷ val.Int (pos 1) ∷ []) ∷ Many []
      ∷ [];
  session = val.Int (pos 0) ∷ [];
  cursor = val.Null;
}

abbrev one_is_one : Filter
one_is_one = Cmp 0 Eq (Var 0)

abbrev null_is_one : Filter
null_is_one = Cmp 1 Eq (Const (val.Int (pos 1)))

pub equal : truth_of values one_is_one row ≡ Yes
equal = simp truths

pub above_a_session_variable : truth_of values (Cmp 0 Gt (Sess 0)) row ≡ Yes
above_a_session_variable = simp truths

pub null_is_unknown : truth_of values null_is_one row ≡ Unknown
null_is_unknown = simp truths

pub unequal_to_null_is_unknown : truth_of values (Cmp 1 Neq (Var 0)) row ≡ Unknown
unequal_to_null_is_unknown = simp truths

pub not_of_unknown : truth_of values (Not null_is_one) row ≡ Unknown
not_of_unknown = simp truths

pub and_with_no : truth_of values (And (null_is_one ∷ Not one_is_one ∷ [])) row ≡ No
and_with_no = simp truths

pub and_with_unknown : truth_of values (And (null_is_one ∷ one_is_one ∷ [])) row ≡ Unknown
and_with_unknown = simp truths

pub or_with_yes : truth_of values (Or (null_is_one ∷ one_is_one ∷ [])) row ≡ Yes
or_with_yes = simp truths

pub or_with_unknown : truth_of values (Or (null_is_one ∷ Not one_is_one ∷ [])) row ≡ Unknown
or_with_unknown = simp truths

pub empty_and : truth_of values (And []) row ≡ Yes
empty_and = simp truths

pub empty_or : truth_of values (Or []) row ≡ No
empty_or = simp truths

pub among_many : truth_of values (Among 0 false (items.Var 1)) row ≡ Yes
among_many = simp truths

pub not_among_many : truth_of values (Among 0 true (items.Var 1)) row ≡ No
not_among_many = simp truths

pub null_among_many : truth_of values (Among 1 false (items.Var 1)) row ≡ Unknown
null_among_many = simp truths

pub among_none : truth_of values (Among 0 false (items.Each [])) row ≡ No
among_none = simp truths

pub null_among_none : truth_of values (Among 1 false (items.Var 2)) row ≡ No
null_among_none = simp truths

pub null_not_among_none : truth_of values (Among 1 true (items.Each [])) row ≡ Yes
null_not_among_none = simp truths

pub is_null : truth_of values (IsNull 1 (Const (val.Bool true))) row ≡ Yes
is_null = simp truths

pub is_not_null : truth_of values (IsNull 0 (Const (val.Bool false))) row ≡ Yes
is_not_null = simp truths

pub is_null_at_a_value : truth_of values (IsNull 0 (Const (val.Bool true))) row ≡ No
is_null_at_a_value = simp truths
