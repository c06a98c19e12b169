use Rattle.std.proofs.Common.{◌≡◌, ◌+◌}
use Rattle.row_store.proofs.snapshot.count_each.Given as goal

abbrev pub invariant-loop-row : goal.invariant-loop-row
invariant-loop-row g l = l.steps ≡ l.fn.steps + l._row-index
