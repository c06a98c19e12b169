-- The truth of a condition, an equation for each form.
use Rattle.std.proofs.Common.{◌≡◌, ◌∙◌, ℕ, Bool, sym, ap, List, map, slice_get}
use Rattle.scalar_val.specs.declared.val.Val.{Val}
use Rattle.plan_model.specs.declared.filter.Binding.{Binding}
use Rattle.plan_model.specs.declared.filter.Filter.{Filter}
use Rattle.plan_model.specs.declared.filter.Filter.TheVariants as filter
use Rattle.plan_model.specs.declared.filter.Filter.TheVariants.{rolls-And, rolls-Or, rolls-Not, rolls-Cmp, rolls-Among}
use Rattle.plan_model.specs.declared.filter.Filter.TheVariants.{rolls-IsNull}
use Rattle.plan_model.specs.declared.filter.Filter.TheFolds.{fold-roll-Filter}
use Rattle.plan_model.specs.declared.filter.Items.{Items}
use Rattle.plan_model.specs.declared.filter.Op.{Op}
use Rattle.plan_model.specs.declared.filter.Operand.{Operand}
use Rattle.plan_model.specs.Truth.{Meaning, truth_of, truth_step, all_of, any_of, negated, negated_if, compared, among}
use Rattle.plan_model.specs.Truth.{null_as_wanted}
use Rattle.scalar_val.specs.Values.{cell}
use Rattle.plan_model.specs.Values.{operand_value, item_values}

pub truth_of-And : (b : Binding) (parts : List Filter) (row : List Val)
    → truth_of b (filter.And parts) row ≡ all_of (map (λ part. part row) (map (truth_of b) parts))
truth_of-And b parts row =
    ap (λ (f : Filter). truth_of b f row) (sym (rolls-And parts))
    ∙ ap (λ (m : Meaning). m row) (fold-roll-Filter Meaning (truth_step b) _)

pub truth_of-Or : (b : Binding) (parts : List Filter) (row : List Val)
    → truth_of b (filter.Or parts) row ≡ any_of (map (λ part. part row) (map (truth_of b) parts))
truth_of-Or b parts row =
    ap (λ (f : Filter). truth_of b f row) (sym (rolls-Or parts))
    ∙ ap (λ (m : Meaning). m row) (fold-roll-Filter Meaning (truth_step b) _)

pub truth_of-Not : (b : Binding) (part : Filter) (row : List Val)
    → truth_of b (filter.Not part) row ≡ negated (truth_of b part row)
truth_of-Not b part row =
    ap (λ (f : Filter). truth_of b f row) (sym (rolls-Not part))
    ∙ ap (λ (m : Meaning). m row) (fold-roll-Filter Meaning (truth_step b) _)

pub truth_of-Cmp : (b : Binding) (column : ℕ) (op : Op) (operand : Operand) (row : List Val)
    → truth_of b (filter.Cmp column op operand) row
    ≡ compared op (cell row column) (operand_value b operand)
truth_of-Cmp b column op operand row =
    ap (λ (f : Filter). truth_of b f row) (sym (rolls-Cmp column op operand))
    ∙ ap (λ (m : Meaning). m row) (fold-roll-Filter Meaning (truth_step b) _)

pub truth_of-Among : (b : Binding) (column : ℕ) (negated : Bool) (items : Items) (row : List Val)
    → truth_of b (filter.Among column negated items) row
    ≡ negated_if negated (among (cell row column) (item_values b items))
truth_of-Among b column negated items row =
    ap (λ (f : Filter). truth_of b f row) (sym (rolls-Among column negated items))
    ∙ ap (λ (m : Meaning). m row) (fold-roll-Filter Meaning (truth_step b) _)

pub truth_of-IsNull : (b : Binding) (column : ℕ) (want : Operand) (row : List Val)
    → truth_of b (filter.IsNull column want) row
    ≡ null_as_wanted (cell row column) (operand_value b want)
truth_of-IsNull b column want row =
    ap (λ (f : Filter). truth_of b f row) (sym (rolls-IsNull column want))
    ∙ ap (λ (m : Meaning). m row) (fold-roll-Filter Meaning (truth_step b) _)

pub ruleset truths = (truth_of-And, truth_of-Or, truth_of-Not, truth_of-Cmp, truth_of-Among, truth_of-IsNull)
