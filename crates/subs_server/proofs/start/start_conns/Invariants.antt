use Rattle.std.proofs.Common.{◌≡◌, ◌≤◌}
use Rattle.subs_server.specs.Mains.{listener_view}
use Rattle.subs_server.specs.Starting.{ServesCounted}
use Rattle.subs_server.proofs.start.start_conns.Given as goal

abbrev pub invariant-loop-numbered : goal.invariant-loop-numbered
invariant-loop-numbered g l = (l.pass ≡ l.initial.pass)
    × ServesCounted l.initial.pass l.clock l.fn.gate
    (listener_view (g.L.Listener.coming l.initial.sockets) (g.L.Listener.last_port l.initial.sockets)
    (g.L.Listener.faults l.initial.sockets))
    (listener_view (g.L.Listener.coming l.sockets) (g.L.Listener.last_port l.sockets) (g.L.Listener.faults l.sockets))
    (g.P.Spawner.started l.initial.spawner) (g.P.Spawner.started l.spawner) l.numbered
    × (g.P.Spawner.faults l.initial.spawner ≤ g.P.Spawner.faults l.spawner)
