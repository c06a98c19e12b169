use Rattle.std.proofs.Common.{◌-◌, ◌≤◌, take, length}
use Rattle.commit_server.specs.Commits.{sink_view, Writes}
use Rattle.commit_server.proofs.put.write_text.Given as goal

abbrev pub invariant-loop-at : goal.invariant-loop-at
invariant-loop-at g l = record {
  within : l.at ≤ length l.text;
  writes : Writes (sink_view (g.K.Sink.written l.fn.sink) (g.K.Sink.faults l.fn.sink))
      (sink_view (g.K.Sink.written l.sink) (g.K.Sink.faults l.sink)) (take l.at l.text);
  steady : g.K.Sink.never_fails l.fn.sink → g.K.Sink.never_fails l.sink;
}

abbrev pub decreases-loop-at : goal.decreases-loop-at
decreases-loop-at g l = length l.text - l.at
