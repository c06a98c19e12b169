use Rattle.subs_server.specs.Ports.{ServesSome}
use Rattle.subs_server.proofs.work.ServeWorkWork.run.Given as goal

abbrev pub invariant-loop : goal.invariant-loop
invariant-loop g l =
    ServesSome g.Q.Conn.Splits.left g.Q.Conn.Splits.written g.Q.Conn.Splits.never_fails
    (g.Q.Listener.coming l.initial.from) (g.Q.Listener.coming l.from) (g.Q.Listener.faults l.initial.from)
    (g.Q.Listener.faults l.from) l.initial.pass l.pass

abbrev pub ghosts-poll_alone : goal.ghosts-poll_alone
ghosts-poll_alone g a = record { name = a.blank.name; parts = a.blank.parts }
