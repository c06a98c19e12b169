use Rattle.std.proofs.Common.{◌≡◌, drop}
use Rattle.std.specs.List.{filter_map, list_all, list_any, slice_get}
use Rattle.data_model.specs.Transactions.{key_columns, is_cell_of}
use Rattle.tx_apply.proofs.naming.has_all_of_key.Given as goal

abbrev pub invariant-loop-place : goal.invariant-loop-place
invariant-loop-place l = list_all (λ column. list_any (is_cell_of column) l.cells) (filter_map (slice_get l.table.columns) (drop l.place-index l.table.key)) ≡ list_all (λ column. list_any (is_cell_of column) l.cells) (key_columns l.table)
