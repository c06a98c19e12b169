use Rattle.std.proofs.Common.{◌≡◌, map, take}
use Rattle.query_model.specs.Plans.{plan_field}
use Rattle.selection_plan.proofs.fields.+fields.Given as goal

abbrev pub invariant-plan_fields-loop-field : goal.invariant-plan_fields-loop-field
invariant-plan_fields-loop-field l =
    l.list ≡ map (plan_field l.places.view.now l.places.names.now l.places.slots.now l.table) (take l.field-index l.fields)
