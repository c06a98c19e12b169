use Rattle.std.proofs.Common.{◌≡◌, map, take}
use Rattle.query_model.specs.Plans.{key_condition}
use Rattle.selection_plan.proofs.selects.key_conditions.Given as goal

abbrev pub invariant-loop-column : goal.invariant-loop-column
invariant-loop-column l =
    l.list ≡ map (key_condition l.places.view.now l.places.names.now l.places.slots.now l.table l.args) (take l.column-index l.column-items)
