-- A filter with other values in the places of its own, an equation for each form.
use Rattle.std.proofs.Common.{◌≡◌, ◌∙◌, ℕ, Bool, List, [], ◌∷◌, map, refl, ap, sym}
use Rattle.plan_model.specs.declared.filter.Filter.{Filter}
use Rattle.plan_model.specs.declared.filter.Filter.TheVariants as filter
use Rattle.plan_model.specs.declared.filter.Filter.TheVariants.{rolls-Not, rolls-Among, rolls-IsNull}
use Rattle.plan_model.specs.declared.filter.Filter.TheFolds.{fold-Filter, fold-roll-Filter}
use Rattle.plan_model.specs.declared.filter.Items.{Items}
use Rattle.plan_model.specs.declared.filter.Op.{Op}
use Rattle.plan_model.specs.declared.filter.Operand.{Operand}
use Rattle.plan_model.proofs.FilterRules.{filter-And, filter-Or, filter-Cmp}
use Rattle.query_model.specs.Results.{Change, items_changed, changed_step, changed}

each_at : (change : Change) (table : ℕ) (parts : List Filter) →
    map (λ (part : ℕ → Filter). part table) (map (fold-Filter (ℕ → Filter) (changed_step change)) parts)
    ≡ map (changed change table) parts
each_at change table [] = refl
each_at change table (part ∷ parts) = ap (λ fs. changed change table part ∷ fs) (each_at change table parts)

module _ (change : Change) (table : ℕ) where
  pub changed-And : (parts : List Filter) →
      changed change table (filter.And parts) ≡ filter.And (map (changed change table) parts)
  changed-And parts = filter-And (changed_step change) parts table ∙ ap filter.And (each_at change table parts)

  pub changed-Or : (parts : List Filter) →
      changed change table (filter.Or parts) ≡ filter.Or (map (changed change table) parts)
  changed-Or parts = filter-Or (changed_step change) parts table ∙ ap filter.Or (each_at change table parts)

  pub changed-Not : (part : Filter) →
      changed change table (filter.Not part) ≡ filter.Not (changed change table part)
  changed-Not part =
      ap (changed change table) (sym (rolls-Not part))
      ∙ ap (λ (f : ℕ → Filter). f table) (fold-roll-Filter (ℕ → Filter) (changed_step change) _)

  pub changed-Cmp : (column : ℕ) (op : Op) (operand : Operand) →
      changed change table (filter.Cmp column op operand) ≡ filter.Cmp column op (change table column operand)
  changed-Cmp column op operand = filter-Cmp (changed_step change) column op operand table

  pub changed-Among : (column : ℕ) (negated : Bool) (items : Items) →
      changed change table (filter.Among column negated items)
      ≡ filter.Among column negated (items_changed (change table column) items)
  changed-Among column negated items =
      ap (changed change table) (sym (rolls-Among column negated items))
      ∙ ap (λ (f : ℕ → Filter). f table) (fold-roll-Filter (ℕ → Filter) (changed_step change) _)

  pub changed-IsNull : (column : ℕ) (want : Operand) →
      changed change table (filter.IsNull column want) ≡ filter.IsNull column want
  changed-IsNull column want =
      ap (changed change table) (sym (rolls-IsNull column want))
      ∙ ap (λ (f : ℕ → Filter). f table) (fold-roll-Filter (ℕ → Filter) (changed_step change) _)

pub ruleset changes = (changed-And, changed-Or, changed-Not, changed-Cmp, changed-Among, changed-IsNull)
