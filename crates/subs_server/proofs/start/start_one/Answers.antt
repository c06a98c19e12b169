use Rattle.std.proofs.Common.{refl}
use Rattle.subs_server.proofs.Starting.{one_started}
use Rattle.subs_server.proofs.start.start_one.Goals as goal

pub returns-then-start-clause-starts : goal.returns-then-start-clause-starts
returns-then-start-clause-starts g c =
    one_started (g.P.Spawner.started c.args.spawner.now) (g.P.Spawner.started c.start.new.self)
    _ c.start.result c.args.pass.now c.in-Ok-split.own c.args.task c.in-Ok-split.ensures.second.0 refl refl c.if-start.true
    c.start.ensures.started
