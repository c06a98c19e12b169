use Rattle.std.proofs.Common.{◌≡◌}
use Rattle.admission_tests.proofs.world.snapshot_after.Given as goal

abbrev pub invariant-loop-text : goal.invariant-loop-text
invariant-loop-text g l = l.snapshot.catalog ≡ l.meta.catalog
