-- Where a key stands among rows that ascend. This project's own.
use Rattle.std.specs.Prelude.{◌≡◌, ℕ, ◌+◌, ◌<◌, ◌≤◌, true, List, length, take, drop, slice_index_or}
use Rattle.std.specs.List.{All}
use Rattle.scalar_val.specs.declared.val.Val.{Val}
use Rattle.data_model.specs.declared.catalog.TableDef.{TableDef}
use Rattle.data_model.specs.Rows.{Row, Rows, has_key, is_below, is_above}

-- no row has the key, which belongs between the rows before a place and those from it on
pub record IsFree (table : TableDef) (key : List Val) (rows : Rows) (at : ℕ) : Type 0 where
  pub within : at ≤ length rows
  pub below : All (λ row. is_below table key row ≡ true) (take at rows)
  pub above : All (λ row. is_above table key row ≡ true) (drop at rows)

-- the row at a place has the key, and no other has it
pub record IsHeld (table : TableDef) (key : List Val) (rows : Rows) (at : ℕ) : Type 0 where
  pub within : at < length rows
  pub below : All (λ row. is_below table key row ≡ true) (take at rows)
  pub here : (d : Row) → has_key table key (slice_index_or rows at d) ≡ true
  pub above : All (λ row. is_above table key row ≡ true) (drop (at + 1) rows)
