-- A hub may be sent to another thread.
use denote.Param.Send.{IsSend, sendable}
use Rattle.std.proofs.Crossing.{crosses}
use Rattle.cohort_map.proofs.map.CohortMap.TheSendSync as cohorts
use Rattle.connection_table.proofs.table.ConnectionTable.TheSendSync as connections
use Rattle.hub.specs.contracts.center.Hub as hub
use Rattle.hub.specs.contracts.center.Hub.TheInside as inside
use Rattle.row_store.proofs.snapshot.Snapshot.TheSendSync as snapshot
use Rattle.engine_sharing.proofs.Metadata.{meta_send}
use Rattle.engine_sharing.proofs.Subscriptions.{subscriptions_send}

inside_send : IsSend inside.the_row
inside_send = search (
  meta_send,
  subscriptions_send,
  snapshot.the_send,
  connections.the_send,
  cohorts.the_send,
  crosses,
  sendable,
) depth 60 fits 20000

pub hub_send : IsSend hub.the_row
hub_send = search (inside_send, crosses, sendable) depth 60 fits 20000
