-- The slots that filters name, an equation for each form.
use Rattle.std.proofs.Common.{◌≡◌, ◌⊎◌, inl, inr, ◌∙◌, ℕ, Bool, List, [], flat_map, ap, sym}
use Rattle.std.proofs.lemmas.List.Folds.{flat_map-map}
use Rattle.plan_model.specs.declared.filter.Filter.{Filter}
use Rattle.plan_model.specs.declared.filter.Filter.TheVariants as filter
use Rattle.plan_model.specs.declared.filter.Filter.TheVariants.{rolls-Not, rolls-Among, rolls-IsNull}
use Rattle.plan_model.specs.declared.filter.Filter.TheFolds.{fold-roll-Filter}
use Rattle.plan_model.specs.declared.filter.Op.{Op}
use Rattle.plan_model.specs.declared.filter.Operand.{Operand}
use Rattle.plan_model.specs.declared.filter.Items.{Items}
use Rattle.plan_model.proofs.FilterRules.{filter-And, filter-Or, filter-Cmp}
use Rattle.role_model.specs.Roles.{View}
use Rattle.query_model.specs.declared.session.SessionSlot.{SessionSlot}
use Rattle.selection_plan.specs.Gathered.{gathered}
use Rattle.query_model.specs.Queries.{filter_slots, filter_slots_step, slots_of, item_slots}

module _ (v : View) where
  pub slots-And : (parts : List Filter) (table : ℕ) → filter_slots v (filter.And parts) table ≡ flat_map (λ part. filter_slots v part table) parts
  slots-And parts table = filter-And (filter_slots_step v) parts table ∙ flat_map-map (λ (part : ℕ → List SessionSlot). part table) (filter_slots v) parts

  pub slots-Or : (parts : List Filter) (table : ℕ) → filter_slots v (filter.Or parts) table ≡ flat_map (λ part. filter_slots v part table) parts
  slots-Or parts table = filter-Or (filter_slots_step v) parts table ∙ flat_map-map (λ (part : ℕ → List SessionSlot). part table) (filter_slots v) parts

  pub slots-Not : (part : Filter) (table : ℕ) → filter_slots v (filter.Not part) table ≡ filter_slots v part table
  slots-Not part table =
      ap (λ (f : Filter). filter_slots v f table) (sym (rolls-Not part))
      ∙ ap (λ (g : ℕ → List SessionSlot). g table) (fold-roll-Filter (ℕ → List SessionSlot) (filter_slots_step v) _)

  pub slots-Cmp : (column : ℕ) (op : Op) (operand : Operand) (table : ℕ) → filter_slots v (filter.Cmp column op operand) table ≡ slots_of v table column operand
  slots-Cmp column op operand table = filter-Cmp (filter_slots_step v) column op operand table

  pub slots-Among : (column : ℕ) (negated : Bool) (items : Items) (table : ℕ) → filter_slots v (filter.Among column negated items) table ≡ item_slots v table column items
  slots-Among column negated items table =
      ap (λ (f : Filter). filter_slots v f table) (sym (rolls-Among column negated items))
      ∙ ap (λ (g : ℕ → List SessionSlot). g table) (fold-roll-Filter (ℕ → List SessionSlot) (filter_slots_step v) _)

  pub slots-IsNull : (column : ℕ) (want : Operand) (table : ℕ) → filter_slots v (filter.IsNull column want) table ≡ []
  slots-IsNull column want table =
      ap (λ (f : Filter). filter_slots v f table) (sym (rolls-IsNull column want))
      ∙ ap (λ (g : ℕ → List SessionSlot). g table) (fold-roll-Filter (ℕ → List SessionSlot) (filter_slots_step v) _)

-- those of all parts
pub parts_gathered : (v : View) (table : ℕ) (f : Filter) (parts read : List Filter) (before now : List SessionSlot) → (f ≡ filter.And parts) ⊎ (f ≡ filter.Or parts) → read ≡ parts →
    now ≡ gathered (flat_map (λ part. filter_slots v part table) read) before → now ≡ gathered (filter_slots v f table) before
parts_gathered v table f parts read before now is reads e =
    e ∙ ap (λ xs. gathered xs before) (ap (flat_map (λ part. filter_slots v part table)) reads ∙ either is)
  where
    either : (f ≡ filter.And parts) ⊎ (f ≡ filter.Or parts) → flat_map (λ part. filter_slots v part table) parts ≡ filter_slots v f table
    either (inl e) = sym (slots-And v parts table) ∙ ap (λ g. filter_slots v g table) (sym e)
    either (inr e) = sym (slots-Or v parts table) ∙ ap (λ g. filter_slots v g table) (sym e)

pub ruleset forms = (slots-And, slots-Or, slots-Not, slots-Cmp, slots-Among, slots-IsNull)
