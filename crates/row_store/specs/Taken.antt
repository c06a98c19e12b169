-- What the index of a table's unique columns holds. This project's own.
use Rattle.std.specs.Prelude.{◌≡◌, ℕ, Bool, not, ◌&&◌, List, ◌==◌}
use Rattle.std.specs.List.{list_any}
use Rattle.std.specs.BTreeSet.{contains}
use Rattle.scalar_val.specs.Values.{is_null}
use Rattle.data_model.specs.Rows.{Rows}
use Rattle.row_store.specs.declared.unique_key.UniqueKey.{UniqueKey}
use Rattle.row_store.specs.declared.taken.Taken.{Taken}
use Rattle.row_store.specs.UniqueKeys.{key_order, has_value}

-- a value, not null, that some row has in one of the columns
abbrev pub stands : List ℕ → Rows → UniqueKey → Bool
stands columns rows key = list_any (λ column. column == key.column) columns && not (is_null key.value) && list_any (has_value key) rows

-- the index has exactly the values that stand in its columns
abbrev pub StandsFor : Rows → Taken → Type 0
StandsFor rows taken = (key : UniqueKey) → contains key_order taken.keys key ≡ stands taken.columns rows key
