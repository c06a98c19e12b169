use Rattle.std.proofs.Common.{◌+◌}
use Rattle.bench_cohorts.specs.Numbered.{AreNumbered}
use Rattle.bench_cohorts.proofs.work.moves.Given as goal

abbrev pub invariant-loop-number : goal.invariant-loop-number
invariant-loop-number l = AreNumbered (l.number + 1) l.moves.items
