use Rattle.std.proofs.Common.{◌≡◌, true, drop}
use Rattle.data_model.specs.Rows.{Row}
use Rattle.plan_model.specs.declared.filter.Binding.{Binding}
use Rattle.plan_model.specs.Truth.{is_yes}
use Rattle.nested_eval.specs.Pins.{parts_say}
use Rattle.nested_eval.proofs.pin.+pin.Given as goal

abbrev pub invariant-pin_of_parts-loop-part : goal.invariant-pin_of_parts-loop-part
invariant-pin_of_parts-loop-part l = (b : Binding) (row : Row) → is_yes (parts_say b row l.parts) ≡ true
    → is_yes (parts_say b row (drop l.part-index l.parts)) ≡ true
