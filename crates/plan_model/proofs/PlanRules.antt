-- Folds of plans whose step gives a function, an equation for each form.
use Rattle.std.proofs.Common.{◌≡◌, ◌∙◌, ℕ, Bool, List, ap, sym}
use Rattle.scalar_val.specs.Joined.{Text}
use Rattle.data_model.specs.Rows.{Row}
use Rattle.plan_model.specs.declared.plan.Field.{Field}
use Rattle.plan_model.specs.declared.plan.Field.TheVariants as field
use Rattle.plan_model.specs.declared.plan.Field.TheVariants.{rolls-Column, rolls-Typename, rolls-Link}
use Rattle.plan_model.specs.declared.plan.Field.TheOpen.{Field-F, Select-F}
use Rattle.plan_model.specs.declared.plan.Field.TheViews.{roll-Select, out-roll-Select}
use Rattle.plan_model.specs.declared.plan.Field.TheFolds.{fold-Field, fold-Select, map-Select, fold-roll-Field}
use Rattle.plan_model.specs.declared.plan.Field.TheFolds.{fold-roll-Select}
use Rattle.plan_model.specs.declared.plan.Select.{Select}

module _ {A : Type 0} (step : Field-F (ℕ → Row → A) ((Row → Bool) → A) → ℕ → Row → A)
    (select_step : Select-F (ℕ → Row → A) ((Row → Bool) → A) → (Row → Bool) → A) where
  abbrev folded_field : Field → ℕ → Row → A
  folded_field = fold-Field (ℕ → Row → A) ((Row → Bool) → A) step select_step

  pub field-Column : (key : Text) (column table : ℕ) (row : Row) →
      fold-Field (ℕ → Row → A) ((Row → Bool) → A) step select_step (field.Column key column) table row
      ≡ step (Field-F.Column key column) table row
  field-Column key column table row =
      ap (λ (f : Field). folded_field f table row) (sym (rolls-Column key column))
      ∙ ap (λ (g : ℕ → Row → A). g table row) (fold-roll-Field (ℕ → Row → A) ((Row → Bool) → A) step select_step _)

  pub field-Typename : (key : Text) (table : ℕ) (row : Row) →
      fold-Field (ℕ → Row → A) ((Row → Bool) → A) step select_step (field.Typename key) table row
      ≡ step (Field-F.Typename key) table row
  field-Typename key table row =
      ap (λ (f : Field). folded_field f table row) (sym (rolls-Typename key))
      ∙ ap (λ (g : ℕ → Row → A). g table row) (fold-roll-Field (ℕ → Row → A) ((Row → Bool) → A) step select_step _)

  pub field-Link : (key : Text) (from to : List ℕ) (select : Select) (table : ℕ) (row : Row) →
      fold-Field (ℕ → Row → A) ((Row → Bool) → A) step select_step (field.Link key from to select) table row ≡
      step (Field-F.Link key from to (fold-Select (ℕ → Row → A) ((Row → Bool) → A) step select_step select)) table row
  field-Link key from to select table row =
      ap (λ (f : Field). folded_field f table row) (sym (rolls-Link key from to select))
      ∙ ap (λ (g : ℕ → Row → A). g table row) (fold-roll-Field (ℕ → Row → A) ((Row → Bool) → A) step select_step _)

  pub select-rolled : (s : Select-F Field Select) (allowed : Row → Bool) →
      fold-Select (ℕ → Row → A) ((Row → Bool) → A) step select_step (roll-Select s) allowed ≡
      select_step (map-Select Field Select (ℕ → Row → A) ((Row → Bool) → A)
      (fold-Field (ℕ → Row → A) ((Row → Bool) → A) step select_step)
      (fold-Select (ℕ → Row → A) ((Row → Bool) → A) step select_step) s) allowed
  select-rolled s allowed =
      ap (λ (g : (Row → Bool) → A). g allowed) (fold-roll-Select (ℕ → Row → A) ((Row → Bool) → A) step select_step s)

pub ruleset plans = (field-Column, field-Typename, field-Link, select-rolled, out-roll-Select)
