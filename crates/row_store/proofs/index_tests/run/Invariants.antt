use Rattle.std.proofs.Common.{◌≡◌}
use Rattle.row_store.specs.Example.{members}
use Rattle.row_store.proofs.index_tests.run.Given as goal

abbrev pub invariant-loop-number : goal.invariant-loop-number
invariant-loop-number g l = l.snapshot.catalog.tables ≡ members
