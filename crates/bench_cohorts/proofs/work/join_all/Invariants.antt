use Rattle.std.proofs.Common.{◌+◌}
use Rattle.stream_cursor.specs.Example.{HasStreams}
use Rattle.bench_cohorts.proofs.work.join_all.Given as goal

abbrev pub invariant-loop-number : goal.invariant-loop-number
invariant-loop-number l = HasStreams (l.number + 1) l.map
