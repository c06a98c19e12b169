-- A work of the server and its answer may be sent to another thread, where its parts may.
use denote.RattleType.{RattleType}
use denote.Param.Send.{IsSend, sendable}
use Rattle.std.proofs.Crossing.{crosses}
use Rattle.engine_sharing.proofs.Sharing.{sharing}
use Rattle.subs_server.specs.contracts.task.ServeWork as work
use Rattle.subs_server.specs.contracts.task.Worked as worked

pub work_send : (N Q C G : RattleType) → IsSend N → IsSend Q → IsSend C → IsSend G → IsSend (work.the_row N Q C G)
work_send N Q C G n q c g = search (sharing, crosses, sendable) depth 60 fits 20000

pub worked_send : (K Q C S : RattleType) → IsSend K → IsSend Q → IsSend C → IsSend S → IsSend (worked.the_row K Q C S)
worked_send K Q C S k q c s = search (sharing, crosses, sendable) depth 60 fits 20000
