use Rattle.std.proofs.Common.{take}
use Rattle.commit_server.specs.Commits.{sink_view}
use Rattle.commit_server.specs.Parts.{Feeds}
use Rattle.commit_server.proofs.reader.take_bytes.Given as goal

abbrev pub invariant-loop-byte : goal.invariant-loop-byte
invariant-loop-byte g l = record {
  feeds : Feeds l.initial.pass l.pass
      (sink_view (g.K.Sink.written l.initial.sink) (g.K.Sink.faults l.initial.sink))
      (sink_view (g.K.Sink.written l.sink) (g.K.Sink.faults l.sink)) l.initial.line.items l.line.items
      (take l.byte-index l.piece);
  steady : g.K.Sink.never_fails l.initial.sink → g.K.Sink.never_fails l.sink;
}
