use Rattle.std.proofs.Common.{◌≡◌, drop}
use Rattle.std.specs.List.{filter_map, slice_get}
use Rattle.data_model.specs.Transactions.{key_columns, names_one}
use Rattle.tx_apply.proofs.naming.names_key.Given as goal

abbrev pub invariant-loop-place : goal.invariant-loop-place
invariant-loop-place l = names_one (filter_map (slice_get l.table.columns) (drop l.place-index l.table.key)) l.cell ≡ names_one (key_columns l.table) l.cell
