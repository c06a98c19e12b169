use Rattle.polling_worker.proofs.Beginning.{begins_fault}
use Rattle.polling_worker.proofs.tick.begin.Goals as goal

pub returns-in-Err : goal.returns-in-Err
returns-in-Err g c =
    begins_fault c.args.ticks c.args.pass.now c.tick.new.pass _ (g.C.Clock.tells c.now_ms-now.new.self)
    c.now_ms-now.result c.in-Err.fault c.if-not-ticks.false c.now_ms-now.ensures c.in-Err.ensures
