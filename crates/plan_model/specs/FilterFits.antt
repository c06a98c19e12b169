-- A condition fits rows of so many columns and a binding where each column is one of the row's, each slot is there
-- and holds what is wanted of it, and `_is_null` has a boolean. This project's own.
use Rattle.std.specs.Prelude.{ℕ, Bool, true, false, ◌&&◌, nat_lt, length, slice_get, Option, Some}
use Rattle.std.specs.List.{list_all}
use Rattle.plan_model.specs.declared.filter.Filter.{Filter}
use Rattle.plan_model.specs.declared.filter.Filter.TheOpen.{Filter-F}
use Rattle.plan_model.specs.declared.filter.Filter.TheFolds.{fold-Filter}
use Rattle.plan_model.specs.declared.filter.Operand.{Operand}
use Rattle.plan_model.specs.declared.filter.Operand.TheVariants.{Const, Var, Sess}
use Rattle.plan_model.specs.declared.filter.Items.{Items}
use Rattle.plan_model.specs.declared.filter.Items.TheVariants as items
use Rattle.plan_model.specs.declared.filter.Slot.{Slot}
use Rattle.plan_model.specs.declared.filter.Slot.TheVariants.{One, Many}
use Rattle.plan_model.specs.declared.filter.Binding.{Binding}
use Rattle.plan_model.specs.Values.{is_bool, operand_value}

abbrev pub is_one : Option Slot → Bool
is_one (Some (One v)) = true
is_one _ = false

abbrev pub is_many : Option Slot → Bool
is_many (Some (Many vs)) = true
is_many _ = false

abbrev pub operand_fits : Binding → Operand → Bool
operand_fits b (Const v) = true
operand_fits b (Var slot) = is_one (slice_get b.vars slot)
operand_fits b (Sess slot) = nat_lt slot (length b.session)

abbrev pub items_fit : Binding → Items → Bool
items_fit b (items.Each operands) = list_all (operand_fits b) operands
items_fit b (items.Var slot) = is_many (slice_get b.vars slot)

abbrev pub itself : Bool → Bool
itself b = b

abbrev pub fits_step : ℕ → Binding → Filter-F Bool → Bool
fits_step columns b (Filter-F.And parts) = list_all itself parts
fits_step columns b (Filter-F.Or parts) = list_all itself parts
fits_step columns b (Filter-F.Not part) = part
fits_step columns b (Filter-F.Cmp column op operand) = nat_lt column columns && operand_fits b operand
fits_step columns b (Filter-F.Among column negated items) = nat_lt column columns && items_fit b items
fits_step columns b (Filter-F.IsNull column want) =
    nat_lt column columns && (operand_fits b want && is_bool (operand_value b want))

abbrev pub fits : ℕ → Binding → Filter → Bool
fits columns b = fold-Filter Bool (fits_step columns b)
