use Rattle.std.proofs.Common.{◌≡◌, ℕ, ◌≤◌, ◌<◌, ◌-◌, true, false, length, take, get_or}
use Rattle.std.specs.List.{All}
use Rattle.data_model.specs.Rows.{Row, is_below}
use Rattle.row_store.proofs.finding.place_of.Given as goal

abbrev pub invariant-loop-low : goal.invariant-loop-low
invariant-loop-low l = record {
  order : l.low ≤ l.high;
  within : l.high ≤ length l.rows;
  below : All (λ row. is_below l.table l.key row ≡ true) (take l.low l.rows);
  rest : (k : ℕ) (d : Row) → l.high ≤ k → k < length l.rows → is_below l.table l.key (get_or l.rows k d) ≡ false;
}

abbrev pub decreases-loop-low : goal.decreases-loop-low
decreases-loop-low l = l.high - l.low
