use Rattle.std.proofs.Common.{◌≡◌, ℕ, ◌≤◌, ◌<◌, ◌-◌, true, false, length}
use Rattle.row_lookup.specs.Ascending.{row_at, row_before}
use Rattle.row_lookup.proofs.key.searched.Given as goal

abbrev pub invariant-loop-low : goal.invariant-loop-low
invariant-loop-low l = record {
  order : l.low ≤ l.high;
  within : l.high ≤ length l.rows;
  below : (j : ℕ) → j < l.low → row_before l.bound (row_at l.rows j) ≡ true;
  above : (j : ℕ) → l.high ≤ j → j < length l.rows → row_before l.bound (row_at l.rows j) ≡ false;
}

abbrev pub decreases-loop-low : goal.decreases-loop-low
decreases-loop-low l = l.high - l.low
