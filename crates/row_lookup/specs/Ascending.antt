-- Rows whose values in a column ascend, and how many of them stand before a bound. This project's own.
use Rattle.std.specs.Prelude.{ℕ, ◌≡◌, ◌<◌, ◌≤◌, Bool, true, false, if◌then◌else◌, [], length, get_or}
use Rattle.std.specs.Ordering.{is_le, is_lt}
use Rattle.scalar_val.specs.declared.val.Val.{Val}
use Rattle.scalar_val.specs.ValOrder.{val_cmp}
use Rattle.scalar_val.specs.Values.{cell}
use Rattle.data_model.specs.Rows.{Row, Rows}
use Rattle.row_lookup.specs.declared.key.Bound.{Bound}

abbrev pub row_at : Rows → ℕ → Row
row_at rows i = get_or rows i []

abbrev pub AscendsIn : ℕ → Rows → Type 0
AscendsIn column rows = (i j : ℕ) → i < j → j < length rows
    → is_le (val_cmp (cell (row_at rows i) column) (cell (row_at rows j) column)) ≡ true

-- less, or equal too
abbrev pub is_before : Bool → Val → Val → Bool
is_before or_equal a bound = if or_equal then is_le (val_cmp a bound) else is_lt (val_cmp a bound)

abbrev pub row_before : Bound → Row → Bool
row_before b row = is_before b.or_equal (cell row b.column) b.value.now

-- just the first so many rows stand before the bound
pub record Parted (b : Bound) (rows : Rows) (count : ℕ) : Type 0 where
  pub within : count ≤ length rows
  pub below : (j : ℕ) → j < count → row_before b (row_at rows j) ≡ true
  pub above : (j : ℕ) → count ≤ j → j < length rows → row_before b (row_at rows j) ≡ false
