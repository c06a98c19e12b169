use Rattle.std.proofs.Common.{[]}
use Rattle.commit_server.specs.Commits.{sink_view, source_view}
use Rattle.commit_server.specs.Parts.{Goes}
use Rattle.commit_server.proofs.serve.serve_commits.Given as goal

abbrev pub invariant-loop : goal.invariant-loop
invariant-loop g l = record {
  goes : Goes l.initial.pass l.pass
      (source_view (g.S.Source.left l.initial.source) (g.S.Source.faults l.initial.source))
      (source_view (g.S.Source.left l.source) (g.S.Source.faults l.source))
      (sink_view (g.K.Sink.written l.initial.sink) (g.K.Sink.faults l.initial.sink))
      (sink_view (g.K.Sink.written l.sink) (g.K.Sink.faults l.sink)) [] l.line.items;
  source : g.S.Source.never_fails l.initial.source → g.S.Source.never_fails l.source;
  sink : g.K.Sink.never_fails l.initial.sink → g.K.Sink.never_fails l.sink;
}
