use Rattle.std.proofs.Common.{false}
use Rattle.connection_server.specs.Talks.{link_view}
use Rattle.connection_server.specs.Parts.{Drains}
use Rattle.connection_server.proofs.drain.drain_all.Given as goal

abbrev pub invariant-loop : goal.invariant-loop
invariant-loop g l =
    Drains l.conn l.initial.pass l.pass
    (link_view (g.K.Link.coming l.initial.link) (g.K.Link.sent l.initial.link) (g.K.Link.faults l.initial.link))
    (link_view (g.K.Link.coming l.link) (g.K.Link.sent l.link) (g.K.Link.faults l.link)) false
