use Rattle.subs_server.specs.Mains.{listener_view}
use Rattle.subs_server.proofs.Starting.{counts_stop, counts_failed}
use Rattle.subs_server.proofs.start.start_conns.Goals as goal

pub returns-in-Err : goal.returns-in-Err
returns-in-Err g c =
    counts_stop c.args.pass.now c.args.clock c.args.gate
    (listener_view (g.L.Listener.coming c.args.sockets.now) (g.L.Listener.last_port c.args.sockets.now)
    (g.L.Listener.faults c.args.sockets.now))
    (listener_view (g.L.Listener.coming c.loop-numbered.sockets) (g.L.Listener.last_port c.loop-numbered.sockets)
    (g.L.Listener.faults c.loop-numbered.sockets))
    (listener_view (g.L.Listener.coming c.accept.new.self) (g.L.Listener.last_port c.accept.new.self)
    (g.L.Listener.faults c.accept.new.self))
    (g.P.Spawner.started c.args.spawner.now) (g.P.Spawner.started c.loop-numbered.spawner)
    (g.P.Spawner.started c.start_one.new.spawner) c.loop-numbered.numbered c.loop-numbered.invariant.1
    c.accept.ensures.last_port c.accept.ensures.later c.in-Conn.from (g.P.Spawner.faults c.args.spawner.now)
    (g.P.Spawner.faults c.loop-numbered.spawner) (g.P.Spawner.faults c.start_one.new.spawner) c.in-Err.end
    c.loop-numbered.invariant.2 c.in-Conn.ensures.coming c.in-Err.ensures.starts

pub returns-in-Failed : goal.returns-in-Failed
returns-in-Failed g c =
    counts_failed c.args.pass.now c.args.clock c.args.gate
    (listener_view (g.L.Listener.coming c.args.sockets.now) (g.L.Listener.last_port c.args.sockets.now)
    (g.L.Listener.faults c.args.sockets.now))
    (listener_view (g.L.Listener.coming c.loop-numbered.sockets) (g.L.Listener.last_port c.loop-numbered.sockets)
    (g.L.Listener.faults c.loop-numbered.sockets))
    (listener_view (g.L.Listener.coming c.accept.new.self) (g.L.Listener.last_port c.accept.new.self)
    (g.L.Listener.faults c.accept.new.self))
    (g.P.Spawner.started c.args.spawner.now) (g.P.Spawner.started c.loop-numbered.spawner)
    (g.P.Spawner.started c.loop-numbered.spawner) c.loop-numbered.numbered c.loop-numbered.invariant.1
    c.accept.ensures.last_port c.accept.ensures.later (g.P.Spawner.faults c.args.spawner.now)
    (g.P.Spawner.faults c.loop-numbered.spawner) (c.accept.ensures.failed c.in-Failed.is) c.in-Failed.ensures.coming
