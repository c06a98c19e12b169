use denote.Param.Send.{sendable}
use Rattle.std.proofs.Crossing.{crosses}
use Rattle.subs_engine.proofs.hold.Hold.TheSendSync as hold
use Rattle.engine_sharing.proofs.Sharing.{sharing}
use Rattle.engine_tests.proofs.threads.fn.poll_by_two.scope.Goals as goal

pub spawn_with-requires-send-F : goal.spawn_with-requires-send-F
spawn_with-requires-send-F g c κs within = search (sharing, hold.the_sync, crosses, sendable) depth 60 fits 20000

pub spawn_with-requires-send-T : goal.spawn_with-requires-send-T
spawn_with-requires-send-T g c κs within = search (sharing, hold.the_sync, crosses, sendable) depth 60 fits 20000

pub spawn_with-requires-2-send-F : goal.spawn_with-requires-2-send-F
spawn_with-requires-2-send-F g c κs within = search (sharing, hold.the_sync, crosses, sendable) depth 60 fits 20000

pub spawn_with-requires-2-send-T : goal.spawn_with-requires-2-send-T
spawn_with-requires-2-send-T g c κs within = search (sharing, hold.the_sync, crosses, sendable) depth 60 fits 20000
