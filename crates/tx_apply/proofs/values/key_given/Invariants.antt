use Rattle.std.proofs.Common.{◌≡◌, ◌++◌, map, drop}
use Rattle.std.specs.List.{filter_map, slice_get}
use Rattle.data_model.specs.Transactions.{given, key_given}
use Rattle.tx_apply.proofs.values.key_given.Given as goal

abbrev pub invariant-loop-place : goal.invariant-loop-place
invariant-loop-place l = l.key.items ++ map (given l.cells) (filter_map (slice_get l.table.columns) (drop l.place-index l.table.key)) ≡ key_given l.table l.cells
