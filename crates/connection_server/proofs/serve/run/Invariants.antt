use Rattle.std.proofs.Common.{false}
use Rattle.connection_server.specs.Talks.{link_view}
use Rattle.connection_server.specs.Parts.{Serves}
use Rattle.connection_server.proofs.serve.run.Given as goal

abbrev pub invariant-loop : goal.invariant-loop
invariant-loop g l =
    Serves l.conn l.start l.initial.pass l.pass
    (link_view (g.K.Link.coming l.initial.link) (g.K.Link.sent l.initial.link) (g.K.Link.faults l.initial.link))
    (link_view (g.K.Link.coming l.link) (g.K.Link.sent l.link) (g.K.Link.faults l.link))
    (g.C.Clock.tells l.initial.clock) (g.C.Clock.tells l.clock) false l.late false
