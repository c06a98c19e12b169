use Rattle.subs_server.specs.Mains.{listener_view}
use Rattle.subs_server.proofs.Serving.{starts_listened, starts_unlistened}
use Rattle.subs_server.proofs.start.start_all.Goals as goal

pub returns-in-Ok-clause-starts : goal.returns-in-Ok-clause-starts
returns-in-Ok-clause-starts g c =
    starts_listened
    (λ from. listener_view (g.Q.Listener.coming from) (g.Q.Listener.last_port from) (g.Q.Listener.faults from))
    c.args.asked c.args.meta c.args.clock c.args.gate (g.P.Spawner.started c.args.spawner.now)
    (g.P.Spawner.started c.start_works.new.spawner) c.args.commits.now c.listen_both.new.commits
    (listener_view (g.L.Listener.coming c.args.sockets.now) (g.L.Listener.last_port c.args.sockets.now)
    (g.L.Listener.faults c.args.sockets.now))
    (listener_view (g.L.Listener.coming c.listen_both.new.sockets) (g.L.Listener.last_port c.listen_both.new.sockets)
    (g.L.Listener.faults c.listen_both.new.sockets))
    (listener_view (g.L.Listener.coming c.start_works.new.sockets) (g.L.Listener.last_port c.start_works.new.sockets)
    (g.L.Listener.faults c.start_works.new.sockets))
    c.in-Ok.from (g.P.Spawner.faults c.args.spawner.now) (g.P.Spawner.faults c.start_works.new.spawner)
    c.start_works.result c.in-Ok.ensures.listening c.start_works.ensures

pub returns-in-Err-clause-starts : goal.returns-in-Err-clause-starts
returns-in-Err-clause-starts g c =
    starts_unlistened
    (λ from. listener_view (g.Q.Listener.coming from) (g.Q.Listener.last_port from) (g.Q.Listener.faults from))
    c.args.asked c.args.meta c.args.clock c.args.gate (g.P.Spawner.started c.args.spawner.now)
    (g.P.Spawner.started c.args.spawner.now) c.args.commits.now
    (listener_view (g.L.Listener.coming c.args.sockets.now) (g.L.Listener.last_port c.args.sockets.now)
    (g.L.Listener.faults c.args.sockets.now))
    (listener_view (g.L.Listener.coming c.listen_both.new.sockets) (g.L.Listener.last_port c.listen_both.new.sockets)
    (g.L.Listener.faults c.listen_both.new.sockets))
    c.in-Err.end
