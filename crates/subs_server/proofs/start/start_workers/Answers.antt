use Rattle.std.proofs.Common.{arith}
use Rattle.subs_server.proofs.Starting.{polls_stop}
use Rattle.subs_server.proofs.start.start_workers.Goals as goal

pub returns-in-Err-clause-starts : goal.returns-in-Err-clause-starts
returns-in-Err-clause-starts g c =
    polls_stop c.args.pass.now c.args.clock c.args.gate (g.P.Spawner.started c.args.spawner.now)
    (g.P.Spawner.started c.loop-worker.spawner) (g.P.Spawner.started c.start_one.new.spawner) c.loop-worker.worker
    c.args.workers (g.P.Spawner.faults c.args.spawner.now) (g.P.Spawner.faults c.loop-worker.spawner)
    (g.P.Spawner.faults c.start_one.new.spawner) c.in-Err.end (omega (arith, c.loop-worker-test.true))
    c.loop-worker.invariant.2 c.loop-worker.invariant.1 c.in-Err.ensures.starts
