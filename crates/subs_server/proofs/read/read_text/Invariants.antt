use Rattle.commit_server.specs.Commits.{source_view, Reads}
use Rattle.subs_server.proofs.read.read_text.Given as goal

abbrev pub invariant-loop : goal.invariant-loop
invariant-loop g l =
    Reads (source_view (g.M.Source.left l.initial.source) (g.M.Source.faults l.initial.source))
    (source_view (g.M.Source.left l.source) (g.M.Source.faults l.source)) l.text.items
