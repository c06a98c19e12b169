use Rattle.std.proofs.Common.{◌≡◌, map, take}
use Rattle.query_model.specs.Plans.{slotting}
use Rattle.condition_plan.proofs.permissions.slotted_operands.Given as goal

abbrev pub invariant-loop-operand : goal.invariant-loop-operand
invariant-loop-operand l =
    l.list
    ≡ map (slotting l.places.view.now l.places.names.now l.places.slots.now l.table l.column)
    (take l.operand-index l.operands)
