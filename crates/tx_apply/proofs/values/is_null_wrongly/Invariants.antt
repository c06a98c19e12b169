use Rattle.std.proofs.Common.{◌≡◌, ◌&&◌, drop, not}
use Rattle.std.specs.List.{list_any}
use Rattle.data_model.specs.Transactions.{is_column}
use Rattle.tx_apply.proofs.values.is_null_wrongly.Given as goal

abbrev pub invariant-loop-column : goal.invariant-loop-column
invariant-loop-column l = list_any (λ column. is_column l.cell.column column && not column.nullable) (drop l.column-index l.columns) ≡ list_any (λ column. is_column l.cell.column column && not column.nullable) l.columns
