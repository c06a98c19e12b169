-- The values that stand in unique columns, each with its column. This project's own.
use Rattle.std.specs.Prelude.{ℕ, Bool, if◌then◌else◌, List, [], ◌∷◌}
use Rattle.std.specs.declared.cmp.Ordering.{Ordering}
use Rattle.std.specs.Cmp.{IsTotalOrder, nat_cmp_total, on_total, then_total}
use Rattle.std.specs.Ordering.{nat_cmp, is_eq, on, then_cmp}
use Rattle.std.specs.List.{flat_map}
use Rattle.scalar_val.specs.declared.val.Val.{Val}
use Rattle.scalar_val.specs.ValOrder.{val_cmp}
use Rattle.scalar_val.proofs.OrderLaws.{val_cmp-total}
use Rattle.scalar_val.specs.Values.{is_null, cell}
use Rattle.data_model.specs.Rows.{Row}
use Rattle.row_store.specs.declared.unique_key.UniqueKey.{UniqueKey}

-- by column, then by value
abbrev pub key_order : UniqueKey → UniqueKey → Ordering
key_order = then_cmp (on (λ k. k.column) nat_cmp) (on (λ k. k.value) val_cmp)

pub key_order-total : IsTotalOrder key_order
key_order-total = then_total (on_total (λ k. k.column) nat_cmp_total) (on_total (λ k. k.value) val_cmp-total)

-- the key of a value, but for null
abbrev pub value_keys : ℕ → Val → List UniqueKey
value_keys column value = if is_null value then [] else record { column = column; value = value } ∷ []

-- the keys of a row in some columns
abbrev pub keys_at : List ℕ → Row → List UniqueKey
keys_at columns row = flat_map (λ column. value_keys column (cell row column)) columns

-- the row has the key's value in its column
abbrev pub has_value : UniqueKey → Row → Bool
has_value key row = is_eq (val_cmp key.value (cell row key.column))
