use Rattle.std.proofs.Common.{◌≡◌, map, take}
use Rattle.query_model.specs.Results.{changed}
use Rattle.query_model.specs.Plans.{slotting}
use Rattle.condition_plan.proofs.permissions.+slotted.Given as goal

abbrev pub invariant-each_slotted-loop-part : goal.invariant-each_slotted-loop-part
invariant-each_slotted-loop-part l =
    l.list
    ≡ map (changed (slotting l.places.view.now l.places.names.now l.places.slots.now) l.table)
    (take l.part-index l.parts)
