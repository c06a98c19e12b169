-- A binding fits a plan: each slot is there and holds what is wanted of it. This project's own.
use Rattle.std.specs.Prelude.{ℕ, Bool, true, false, ◌&&◌, Option, Some, None, IsTrue, ◌||◌, nat_le, unwrap_or}
use Rattle.std.specs.Prelude.{option_map}
use Rattle.std.specs.List.{list_all}
use Rattle.scalar_val.specs.declared.val.Val.{Val}
use Rattle.plan_model.specs.declared.filter.Filter.{Filter}
use Rattle.plan_model.specs.declared.filter.Filter.TheOpen.{Filter-F}
use Rattle.plan_model.specs.declared.filter.Filter.TheFolds.{fold-Filter}
use Rattle.plan_model.specs.declared.filter.Operand.{Operand}
use Rattle.plan_model.specs.declared.filter.Binding.{Binding}
use Rattle.plan_model.specs.declared.plan.Shape.{Shape}
use Rattle.plan_model.specs.declared.plan.Shape.TheVariants as shape
use Rattle.plan_model.specs.declared.plan.Field.TheOpen.{Field-F, Select-F}
use Rattle.plan_model.specs.declared.plan.Field.TheFolds.{fold-Select}
use Rattle.plan_model.specs.declared.plan.Select.{Select}
use Rattle.plan_model.specs.declared.plan.Plan.{Plan}
use Rattle.scalar_val.specs.Values.{is_null}
use Rattle.plan_model.specs.Values.{is_bool, operand_value, number_in}
use Rattle.plan_model.specs.FilterFits.{operand_fits, items_fit, itself}

module _ (b : Binding) where
  abbrev pub values_fit_step : Filter-F Bool → Bool
  values_fit_step (Filter-F.And parts) = list_all itself parts
  values_fit_step (Filter-F.Or parts) = list_all itself parts
  values_fit_step (Filter-F.Not part) = part
  values_fit_step (Filter-F.Cmp column op operand) = operand_fits b operand
  values_fit_step (Filter-F.Among column negated items) = items_fit b items
  values_fit_step (Filter-F.IsNull column want) = operand_fits b want && is_bool (operand_value b want)

  abbrev pub values_fit : Filter → Bool
  values_fit = fold-Filter Bool values_fit_step

  -- an integer that isn't below the least
  abbrev pub is_number : ℕ → Val → Bool
  is_number least x = unwrap_or (option_map (nat_le least) (number_in x)) false

  abbrev pub count_fits : Option Operand → Bool
  count_fits (Some o) = operand_fits b o && (is_null (operand_value b o) || is_number 0 (operand_value b o))
  count_fits None = true

  abbrev pub batch_fits : Shape → Bool
  batch_fits (shape.Stream column descending batch) = operand_fits b batch && is_number 1 (operand_value b batch)
  batch_fits shape.List = true
  batch_fits shape.One = true

  abbrev pub bound_field_step : Field-F Bool Bool → Bool
  bound_field_step (Field-F.Column key column) = true
  bound_field_step (Field-F.Typename key) = true
  bound_field_step (Field-F.Link key from to select) = select

  abbrev pub bound_select_step : Select-F Bool Bool → Bool
  bound_select_step s =
      values_fit s.filter && count_fits s.limit && count_fits s.offset && batch_fits s.shape && list_all itself s.fields

  abbrev pub is_bound : Select → Bool
  is_bound = fold-Select Bool Bool bound_field_step bound_select_step

abbrev pub BindingFits : Plan → Binding → Type 0
BindingFits p b = IsTrue (is_bound b p.root)
