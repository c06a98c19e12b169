-- Rows that are chained by the slots of their values in a column. This project's own.
use Rattle.std.specs.Prelude.{ℕ, ◌≡◌, ◌≢◌, ◌+◌, ◌*◌, ◌%◌, ◌^◌, ◌<◌, if◌then◌else◌, List, length, get_or, unsigned_abs}
use Rattle.std.specs.List.{fold}
use Rattle.scalar_val.specs.declared.val.Val.{Val}
use Rattle.scalar_val.specs.declared.val.Val.TheVariants as val
use Rattle.scalar_val.specs.Values.{cell}
use Rattle.data_model.specs.Rows.{Rows}
use Rattle.row_lookup.specs.Ascending.{row_at}

abbrev pub mixed : ℕ → ℕ → ℕ
mixed hash byte = ((hash * 31) % 2 ^ 64 + byte) % 2 ^ 64

-- a number for each value
abbrev pub hash_of : Val → ℕ
hash_of val.Null = 0
hash_of (val.Bool b) = if b then 1 else 0
hash_of (val.Int z) = unsigned_abs z
hash_of (val.Big z) = unsigned_abs z
hash_of (val.Text t) = fold mixed 0 t
hash_of (val.Uuid n) = n % 2 ^ 64

-- its place among so many
abbrev pub slot_of : ℕ → Val → ℕ
slot_of size v = hash_of v % size

-- the slot of a row's value
abbrev pub slot_in : ℕ → ℕ → Rows → ℕ → ℕ
slot_in size column rows i = slot_of size (cell (row_at rows i) column)

-- From the first row with a slot on, each row leads to the next with the same slot.
pub record Chained (column : ℕ) (rows : Rows) (heads next : List ℕ) : Type 0 where
  pub long : length next ≡ length rows
  pub first : (h i : ℕ) → h < length heads → i < get_or heads h 0 → slot_in (length heads) column rows i ≢ h
  pub starts : (h : ℕ) → h < length heads → get_or heads h 0 < length rows
      → slot_in (length heads) column rows (get_or heads h 0) ≡ h
  pub skips : (i j : ℕ) → i < length rows → i < j → j < get_or next i 0
      → slot_in (length heads) column rows j ≢ slot_in (length heads) column rows i
  pub stays : (i : ℕ) → i < length rows → get_or next i 0 < length rows
      → slot_in (length heads) column rows (get_or next i 0) ≡ slot_in (length heads) column rows i
  pub onward : (i : ℕ) → i < length rows → i < get_or next i 0
