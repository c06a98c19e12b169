use Rattle.std.proofs.Common.{◌≡◌, map, take}
use Rattle.query_model.specs.Conditions.{conditions_in, condition_at}
use Rattle.query_model.specs.Plans.{operands}
use Rattle.condition_plan.proofs.wheres.+conditions.Given as goal

abbrev pub invariant-each_condition-loop-value : goal.invariant-each_condition-loop-value
invariant-each_condition-loop-value l =
    let r = operands l.places.view.now l.places.names.now l.places.slots.now in
    l.parts ≡ map (λ x. (conditions_in l.places.view.now r x).one l.table) (take l.value-index l.values)

abbrev pub invariant-each_key-loop-pair : goal.invariant-each_key-loop-pair
invariant-each_key-loop-pair l =
    let r = operands l.places.view.now l.places.names.now l.places.slots.now in
    l.parts ≡ map (λ p. condition_at l.places.view.now r p l.table) (take l.pair-index l.pairs)
