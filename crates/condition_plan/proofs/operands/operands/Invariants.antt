use Rattle.std.proofs.Common.{◌≡◌, map, take}
use Rattle.query_model.specs.Plans.{operand_of}
use Rattle.condition_plan.proofs.operands.operands.Given as goal

abbrev pub invariant-loop-value : goal.invariant-loop-value
invariant-loop-value l =
    l.list
    ≡ map (operand_of l.places.view.now l.places.names.now l.places.slots.now l.kind) (take l.value-index l.values)
