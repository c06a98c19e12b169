-- A plan may be sent and shared. A selection holds fields that hold selections, so nobody makes these by themselves.
use denote.Param.Send.{IsSend, IsSync, sendable}
use Rattle.std.proofs.Crossing.{crosses}
use Rattle.plan_model.specs.contracts.filter.Filter as filter
use Rattle.plan_model.specs.contracts.plan.Select as selection
use Rattle.plan_model.specs.contracts.plan.Plan as plan
use Rattle.plan_model.proofs.filter.Filter.TheLaws.TheKnot as filter_knot
use Rattle.plan_model.proofs.plan.Field.TheLaws.TheKnot as plan_knot

filter_send : IsSend filter.the_field.row
filter_send = search (filter_knot.crosses, crosses, sendable) depth 60 fits 20000

filter_sync : IsSync filter.the_field.row
filter_sync = search (filter_knot.crosses, crosses, sendable) depth 60 fits 20000

selection_send : IsSend selection.the_field.row
selection_send = search (plan_knot.crosses, filter_send, crosses, sendable) depth 60 fits 20000

selection_sync : IsSync selection.the_field.row
selection_sync = search (plan_knot.crosses, filter_sync, crosses, sendable) depth 60 fits 20000

pub plan_send : IsSend plan.the_row
plan_send = search (selection_send, crosses, sendable) depth 60 fits 20000

pub plan_sync : IsSync plan.the_row
plan_sync = search (selection_sync, crosses, sendable) depth 60 fits 20000
