use Rattle.std.proofs.Common.{◌≡◌, ◌≤◌}
use Rattle.subs_server.specs.Mains.{polls}
use Rattle.subs_server.specs.Starting.{Begins}
use Rattle.subs_server.proofs.start.start_workers.Given as goal

abbrev pub invariant-loop-worker : goal.invariant-loop-worker
invariant-loop-worker g l = (l.pass ≡ l.initial.pass)
    × Begins l.initial.pass l.clock l.gate (g.P.Spawner.started l.initial.spawner) (g.P.Spawner.started l.spawner)
    (polls l.worker)
    × (g.P.Spawner.faults l.initial.spawner ≤ g.P.Spawner.faults l.spawner)
