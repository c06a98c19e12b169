use Rattle.connection_server.proofs.Running.{runs_drains, runs_round}
use Rattle.connection_server.proofs.serve.run.Goals as goal

pub returns-in-Err : goal.returns-in-Err
returns-in-Err g c =
    runs_drains c.args.conn c.args.start c.args.pass.now c.loop.pass c.drain_all.new.pass _ _ _
    (g.C.Clock.tells c.args.clock.now) (g.C.Clock.tells c.loop.clock) c.loop.late c.in-Err.end c.loop.invariant
    c.in-Err.ensures

pub returns-in-Err-take_in : goal.returns-in-Err-take_in
returns-in-Err-take_in g c =
    runs_round c.args.conn c.args.start c.args.pass.now c.loop.pass c.drain_all.new.pass c.take_in.new.pass _ _ _ _
    (g.C.Clock.tells c.args.clock.now) (g.C.Clock.tells c.loop.clock) (g.C.Clock.tells c.take_in.new.clock) c.loop.late
    c.in-Err-take_in.end c.loop.invariant c.in-Ok.ensures c.in-Err-take_in.ensures.1
