use Rattle.std.proofs.Common.{◌≤◌, ◌<◌, ◌-◌, length}
use Rattle.subs_run.specs.Pieces.{IsAt, ends}
use Rattle.subs_run.proofs.script.run_from.Given as goal

abbrev pub invariant-loop-count : goal.invariant-loop-count
invariant-loop-count g l = record {
  at : IsAt (ends (g.S.Source.left l.fn.source) (g.K.Sink.written l.fn.sink))
      (ends (g.S.Source.left l.source) (g.K.Sink.written l.sink)) l.reader l.count;
  some : 0 < length l.buf;
  source_later : g.S.Source.faults l.fn.source ≤ g.S.Source.faults l.source;
  sink_later : g.K.Sink.faults l.fn.sink ≤ g.K.Sink.faults l.sink;
  source_steady : g.S.Source.never_fails l.fn.source → g.S.Source.never_fails l.source;
  sink_steady : g.K.Sink.never_fails l.fn.sink → g.K.Sink.never_fails l.sink;
}

abbrev pub decreases-loop-count : goal.decreases-loop-count
decreases-loop-count g l = 67108864 - l.count
