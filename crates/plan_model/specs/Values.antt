-- The values of operands, with those of variables and of session variables. This project's own.
use Rattle.std.specs.Prelude.{ℕ, Bool, true, false, List, [], map, slice_get, Option, Some, None, pos}
use Rattle.scalar_val.specs.declared.val.Val.{Val}
use Rattle.scalar_val.specs.declared.val.Val.TheVariants as val
use Rattle.scalar_val.specs.Values.{cell}
use Rattle.plan_model.specs.declared.filter.Operand.{Operand}
use Rattle.plan_model.specs.declared.filter.Operand.TheVariants.{Const, Var, Sess}
use Rattle.plan_model.specs.declared.filter.Items.{Items}
use Rattle.plan_model.specs.declared.filter.Items.TheVariants as items
use Rattle.plan_model.specs.declared.filter.Slot.{Slot}
use Rattle.plan_model.specs.declared.filter.Slot.TheVariants.{One, Many}
use Rattle.plan_model.specs.declared.filter.Binding.{Binding}

abbrev pub is_bool : Val → Bool
is_bool (val.Bool b) = true
is_bool _ = false

abbrev pub is_true : Val → Bool
is_true (val.Bool b) = b
is_true _ = false

-- the value of a slot of one value, and those of a slot of many; null and none where there is no such slot
abbrev pub one_value : Option Slot → Val
one_value (Some (One v)) = v
one_value _ = val.Null

abbrev pub many_values : Option Slot → List Val
many_values (Some (Many vs)) = vs
many_values _ = []

abbrev pub operand_value : Binding → Operand → Val
operand_value b (Const v) = v
operand_value b (Var slot) = one_value (slice_get b.vars slot)
operand_value b (Sess slot) = cell b.session slot

abbrev pub item_values : Binding → Items → List Val
item_values b (items.Each operands) = map (operand_value b) operands
item_values b (items.Var slot) = many_values (slice_get b.vars slot)

-- a number of rows: an integer that isn't negative
abbrev pub number_in : Val → Option ℕ
number_in (val.Int (pos n)) = Some n
number_in _ = None
