use Rattle.std.proofs.Common.{◌≡◌, drop}
use Rattle.std.specs.List.{list_any}
use Rattle.data_model.specs.Transactions.{is_column}
use Rattle.tx_apply.proofs.naming.names_one.Given as goal

abbrev pub invariant-loop-column : goal.invariant-loop-column
invariant-loop-column l = list_any (is_column l.cell.column) (drop l.column-index l.columns) ≡ list_any (is_column l.cell.column) l.columns
