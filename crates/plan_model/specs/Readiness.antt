-- What the evaluation of a selection needs of a catalog and of values: its tables are there, and its conditions fit
-- them. This project's own.
use Rattle.std.specs.Prelude.{Bool, true, ◌&&◌, nat_lt, length}
use Rattle.std.specs.List.{list_all}
use Rattle.data_model.specs.declared.catalog.Catalog.{Catalog}
use Rattle.plan_model.specs.declared.filter.Binding.{Binding}
use Rattle.plan_model.specs.declared.plan.Field.{Field}
use Rattle.plan_model.specs.declared.plan.Field.TheOpen.{Field-F, Select-F}
use Rattle.plan_model.specs.declared.plan.Field.TheFolds.{fold-Field, fold-Select}
use Rattle.plan_model.specs.declared.plan.Select.{Select}
use Rattle.plan_model.specs.FilterFits.{fits, itself}
use Rattle.plan_model.specs.PlanFits.{width}

module _ (catalog : Catalog) (b : Binding) where
  abbrev pub ready_field_step : Field-F Bool Bool → Bool
  ready_field_step (Field-F.Column key column) = true
  ready_field_step (Field-F.Typename key) = true
  ready_field_step (Field-F.Link key from to select) = select

  abbrev pub ready_select_step : Select-F Bool Bool → Bool
  ready_select_step s =
      nat_lt s.table (length catalog.tables) && fits (width catalog s.table) b s.filter && list_all itself s.fields

  abbrev pub is_ready_field : Field → Bool
  is_ready_field = fold-Field Bool Bool ready_field_step ready_select_step

  abbrev pub is_ready : Select → Bool
  is_ready = fold-Select Bool Bool ready_field_step ready_select_step
