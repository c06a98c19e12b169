-- A table of items for tests: an item may be a part of another. And selections of it. This project's own.
use Rattle.std.specs.Prelude.{ℕ, Bool, true, false, pos, IsTrue, List, [], ◌∷◌, None, codes}
use Rattle.scalar_val.specs.declared.val.Kind.TheVariants as kind
use Rattle.scalar_val.specs.declared.val.Val.TheVariants as val
use Rattle.data_model.specs.declared.catalog.Column.{Column}
use Rattle.data_model.specs.declared.catalog.TableDef.{TableDef}
use Rattle.data_model.specs.declared.catalog.Catalog.{Catalog}
use Rattle.plan_model.specs.declared.filter.Binding.{Binding}
use Rattle.plan_model.specs.declared.filter.Filter.TheVariants as filter
use Rattle.plan_model.specs.declared.filter.Operand.{Operand}
use Rattle.plan_model.specs.declared.filter.Operand.TheVariants.{Const}
use Rattle.plan_model.specs.declared.plan.Field.{Field}
use Rattle.plan_model.specs.declared.plan.Field.TheFolds.{fold-Field}
use Rattle.plan_model.specs.declared.plan.Shape.{Shape}
use Rattle.plan_model.specs.declared.plan.Select.{Select}
use Rattle.plan_model.specs.PlanFits.{FitsAt, fits_field_step, fits_select_step, select_fits}
use Rattle.plan_model.specs.BindingFits.{bound_field_step, bound_select_step, is_bound}

abbrev pub id_column : Column
id_column = record { name = codes "id"; kind = kind.Int; nullable = false }

-- the item that it is a part of, or null
abbrev pub whole_column : Column
whole_column = record { name = codes "whole"; kind = kind.Int; nullable = true }

abbrev pub items : List TableDef
items = record { name = codes "item"; columns = id_column ∷ whole_column ∷ []; key = 0 ∷ []; unique = []; max_rows = 8 }
    ∷ []

abbrev pub catalog : Catalog
catalog = record { tables = items }

-- related rows, all or the first
abbrev pub related : Shape → List Field → Select
related shape fields =
    record { table = 0; shape = shape; filter = filter.And []; order = []; limit = None; offset = None; cap = None; fields = fields }

abbrev pub number : ℕ → Operand
number n = Const (val.Int (pos n))

-- what fits the table, with any values

pub record FieldFits (f : Field) : Type 0 where
  pub columns : IsTrue (fold-Field (ℕ → Bool) (FitsAt catalog) (fits_field_step catalog) (fits_select_step catalog) f 0)
  pub values : (b : Binding) → IsTrue (fold-Field Bool Bool (bound_field_step b) (bound_select_step b) f)

pub record RootFits (s : Select) : Type 0 where
  pub columns : IsTrue (select_fits catalog s true [])
  pub values : (b : Binding) → IsTrue (is_bound b s)
