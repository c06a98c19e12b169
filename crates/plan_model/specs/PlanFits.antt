-- A plan fits a catalog: all tables and columns are there, and a stream stands at the root alone. This project's own.
use Rattle.std.specs.Prelude.{ℕ, Bool, true, false, ◌&&◌, nat_lt, List, [], length, map, slice_get, ◌≡◌, IsTrue, ◌==◌}
use Rattle.std.specs.Prelude.{unwrap_or, option_map}
use Rattle.std.specs.List.{list_all}
use Rattle.data_model.specs.declared.catalog.TableDef.{TableDef}
use Rattle.data_model.specs.declared.catalog.Catalog.{Catalog}
use Rattle.plan_model.specs.declared.filter.Filter.{Filter}
use Rattle.plan_model.specs.declared.filter.Filter.TheOpen.{Filter-F}
use Rattle.plan_model.specs.declared.filter.Filter.TheFolds.{fold-Filter}
use Rattle.plan_model.specs.declared.plan.Order.{Order}
use Rattle.plan_model.specs.declared.plan.Shape.{Shape}
use Rattle.plan_model.specs.declared.plan.Shape.TheVariants as shape
use Rattle.plan_model.specs.declared.plan.Field.TheOpen.{Field-F, Select-F}
use Rattle.plan_model.specs.declared.plan.Field.TheFolds.{fold-Select}
use Rattle.plan_model.specs.declared.plan.Select.{Select}
use Rattle.plan_model.specs.declared.plan.Plan.{Plan}

module _ (catalog : Catalog) where
  -- how many columns a table has
  abbrev pub width : ℕ → ℕ
  width table = unwrap_or (option_map (λ (t : TableDef). length t.columns) (slice_get catalog.tables table)) 0

  abbrev pub has_column : ℕ → ℕ → Bool
  has_column table column = nat_lt column (width table)

  abbrev pub columns_fit_step : Filter-F (ℕ → Bool) → ℕ → Bool
  columns_fit_step (Filter-F.And parts) table = list_all (λ (part : ℕ → Bool). part table) parts
  columns_fit_step (Filter-F.Or parts) table = list_all (λ (part : ℕ → Bool). part table) parts
  columns_fit_step (Filter-F.Not part) table = part table
  columns_fit_step (Filter-F.Cmp column op operand) table = has_column table column
  columns_fit_step (Filter-F.Among column negated items) table = has_column table column
  columns_fit_step (Filter-F.IsNull column want) table = has_column table column

  abbrev pub columns_fit : ℕ → Filter → Bool
  columns_fit table f = fold-Filter (ℕ → Bool) columns_fit_step f table

  abbrev pub shape_fits : Bool → ℕ → Shape → Bool
  shape_fits is_root table (shape.Stream column descending batch) = is_root && has_column table column
  shape_fits is_root table shape.List = true
  shape_fits is_root table shape.One = true

  -- what a selection needs of its place, and of the columns that a relationship joins to
  abbrev pub FitsAt : Type 0
  FitsAt = Bool → List ℕ → Bool

  abbrev pub fits_field_step : Field-F (ℕ → Bool) FitsAt → ℕ → Bool
  fits_field_step (Field-F.Column key column) table = has_column table column
  fits_field_step (Field-F.Typename key) table = true
  fits_field_step (Field-F.Link key from to select) table =
      (length from == length to) && list_all (has_column table) from && select false to

  abbrev pub fits_select_step : Select-F (ℕ → Bool) FitsAt → FitsAt
  fits_select_step s is_root to =
      nat_lt s.table (length catalog.tables) && list_all (has_column s.table) to && shape_fits is_root s.table s.shape
      && columns_fit s.table s.filter
      && list_all (λ (o : Order). has_column s.table o.column) s.order
      && list_all (λ (f : ℕ → Bool). f s.table) s.fields

  abbrev pub select_fits : Select → FitsAt
  select_fits = fold-Select (ℕ → Bool) FitsAt fits_field_step fits_select_step

pub record PlanFits (catalog : Catalog) (p : Plan) : Type 0 where
  pub names : p.names ≡ map (λ (t : TableDef). t.name) catalog.tables
  pub root : IsTrue (select_fits catalog p.root true [])
