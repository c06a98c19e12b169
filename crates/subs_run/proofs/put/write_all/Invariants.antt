use Rattle.std.proofs.Common.{◌-◌, ◌≤◌, take, length}
use Rattle.subs_run.specs.Written.{WritesAll}
use Rattle.subs_run.proofs.put.write_all.Given as goal

abbrev pub invariant-loop-at : goal.invariant-loop-at
invariant-loop-at g l = record {
  within : l.at ≤ length l.bytes;
  written : WritesAll (g.K.Sink.written l.fn.sink) (g.K.Sink.written l.sink) (take l.at l.bytes);
  later : g.K.Sink.faults l.fn.sink ≤ g.K.Sink.faults l.sink;
  steady : g.K.Sink.never_fails l.fn.sink → g.K.Sink.never_fails l.sink;
}

abbrev pub decreases-loop-at : goal.decreases-loop-at
decreases-loop-at g l = length l.bytes - l.at
