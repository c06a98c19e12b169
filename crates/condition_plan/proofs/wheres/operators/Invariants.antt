use Rattle.std.proofs.Common.{◌≡◌, map, take}
use Rattle.query_model.specs.Conditions.{operator_filter}
use Rattle.query_model.specs.Plans.{operands}
use Rattle.condition_plan.proofs.wheres.operators.Given as goal

abbrev pub invariant-loop-pair : goal.invariant-loop-pair
invariant-loop-pair l =
    l.parts
    ≡ map (operator_filter l.places.view.now (operands l.places.view.now l.places.names.now l.places.slots.now)
    l.column l.kind) (take l.pair-index l.pairs)
