use Rattle.std.proofs.Common.{◌≡◌, ◌+◌, ◌≤◌, take}
use Rattle.row_chunks.proofs.chunk.copy_rows.Given as goal

abbrev pub invariant-loop-row : goal.invariant-loop-row
invariant-loop-row g l = record {
  copied : l.copy.items ≡ take l.row-index l.rows;
  steps : l.steps ≤ l.fn.steps + l.row-index;
}
