use Rattle.std.proofs.Common.{◌≡◌}
use Rattle.bench_data.proofs.work.commits.Given as goal

abbrev pub invariant-loop-number : goal.invariant-loop-number
invariant-loop-number g l = l.last.catalog ≡ l.catalog
