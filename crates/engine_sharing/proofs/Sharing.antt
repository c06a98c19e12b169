-- What whoever starts threads cites: an engine may be shared and sent, and a pass sent.
use denote.Param.Send.{IsSend, IsSync, sendable}
use Rattle.std.proofs.Crossing.{crosses}
use Rattle.history_lock.proofs.lock.HistoryLock.TheSendSync as lock
use Rattle.subs_engine.specs.contracts.engine.Engine as engine
use Rattle.subs_engine.specs.contracts.engine.Engine.TheInside as inside
use Rattle.history_lock.proofs.pass.Pass.TheSendSync as pass
use Rattle.engine_sharing.proofs.Hubs.{hub_send}

inside_send : IsSend inside.the_row
inside_send = search (lock.the_send, hub_send, crosses, sendable) depth 60 fits 20000

inside_sync : IsSync inside.the_row
inside_sync = search (lock.the_sync, hub_send, crosses, sendable) depth 60 fits 20000

pub engine_send : IsSend engine.the_row
engine_send = search (inside_send, crosses, sendable) depth 60 fits 20000

pub engine_sync : IsSync engine.the_row
engine_sync = search (inside_sync, crosses, sendable) depth 60 fits 20000

pub ruleset sharing = (hub_send, engine_send, engine_sync, pass.the_send)
