-- The table of subscriptions, which share plans and kept results, may be sent to another thread.
use denote.Param.Send.{IsSend, sendable}
use Rattle.std.proofs.Crossing.{crosses}
use Rattle.std.proofs.MapsCrossing as maps
use Rattle.resp_keep.proofs.shared.SharedKept.TheSendSync as kept
use Rattle.subscription_table.specs.contracts.plan.SharedPlan as shared
use Rattle.subscription_table.specs.contracts.plan.SharedPlan.TheInside as shared_inside
use Rattle.subscription_table.specs.contracts.held.Held as held
use Rattle.subscription_table.specs.contracts.table.SubscriptionTable as table
use Rattle.subscription_table.specs.contracts.table.SubscriptionTable.TheInside as table_inside
use Rattle.engine_sharing.proofs.Plans.{plan_send, plan_sync}

shared_inside_send : IsSend shared_inside.the_row
shared_inside_send = search (plan_send, plan_sync, crosses, sendable) depth 60 fits 20000

shared_send : IsSend shared.the_row
shared_send = search (shared_inside_send, crosses, sendable) depth 60 fits 20000

held_send : IsSend held.the_row
held_send = search (shared_send, kept.the_send, crosses, sendable) depth 60 fits 20000

table_inside_send : IsSend table_inside.the_row
table_inside_send = search (held_send, maps.crosses, crosses, sendable) depth 60 fits 20000

pub subscriptions_send : IsSend table.the_row
subscriptions_send = search (table_inside_send, crosses, sendable) depth 60 fits 20000
