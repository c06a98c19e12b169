-- The conditions of the tests fit rows of one column, with any binding.
use Rattle.std.proofs.Common.{◌∙◌, Bool, IsTrue, List, sym, ap}
use Rattle.scalar_val.specs.declared.val.Val.{Val}
use Rattle.scalar_val.specs.declared.val.Val.TheVariants as val
use Rattle.plan_model.specs.declared.filter.Binding.{Binding}
use Rattle.plan_model.specs.declared.filter.Filter.{Filter}
use Rattle.plan_model.specs.declared.filter.Filter.TheVariants as filter
use Rattle.plan_model.specs.declared.filter.Filter.TheVariants.{rolls-Not, rolls-Cmp, rolls-Among, rolls-IsNull}
use Rattle.plan_model.specs.declared.filter.Filter.TheFolds.{fold-roll-Filter}
use Rattle.plan_model.specs.declared.filter.Items.TheVariants as items
use Rattle.plan_model.specs.declared.filter.Op.{Op}
use Rattle.plan_model.specs.declared.filter.Operand.{Operand}
use Rattle.plan_model.specs.declared.filter.Operand.TheVariants.{Const}
use Rattle.plan_model.specs.FilterFits.{fits, fits_step, items_fit}

pub comparison_fits : (b : Binding) (op : Op) (v : Val) → IsTrue (fits 1 b (filter.Cmp 0 op (Const v)))
comparison_fits b op v = ap (fits 1 b) (sym (rolls-Cmp 0 op (Const v))) ∙ fold-roll-Filter Bool (fits_step 1 b) _

pub among_fits : (b : Binding) (negated : Bool) (operands : List Operand) → IsTrue (items_fit b (items.Each operands))
    → IsTrue (fits 1 b (filter.Among 0 negated (items.Each operands)))
among_fits b negated operands h =
    ap (fits 1 b) (sym (rolls-Among 0 negated (items.Each operands))) ∙ fold-roll-Filter Bool (fits_step 1 b) _ ∙ h

pub null_test_fits : (b : Binding) (want : Bool) → IsTrue (fits 1 b (filter.IsNull 0 (Const (val.Bool want))))
null_test_fits b want =
    ap (fits 1 b) (sym (rolls-IsNull 0 (Const (val.Bool want)))) ∙ fold-roll-Filter Bool (fits_step 1 b) _

pub negation_fits : (b : Binding) (part : Filter) → IsTrue (fits 1 b part) → IsTrue (fits 1 b (filter.Not part))
negation_fits b part h = ap (fits 1 b) (sym (rolls-Not part)) ∙ fold-roll-Filter Bool (fits_step 1 b) _ ∙ h
