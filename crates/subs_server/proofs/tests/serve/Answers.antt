use denote.Param.Send.{sendable}
use Rattle.std.proofs.Crossing.{crosses}
use Rattle.engine_sharing.proofs.Sharing.{sharing}
use Rattle.subs_server.proofs.tests.serve.Goals as goal

pub new-requires-5-send-W : goal.new-requires-5-send-W
new-requires-5-send-W g c κs = search (sharing, crosses, sendable) depth 60 fits 20000

pub started-requires-send-W : goal.started-requires-send-W
started-requires-send-W g c κs = search (sharing, crosses, sendable) depth 60 fits 20000
