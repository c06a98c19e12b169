use Rattle.std.proofs.Common.{◌≡◌, ◌&&◌, drop, is_none}
use Rattle.std.specs.List.{list_any}
use Rattle.scalar_val.specs.Spellings.{fitted}
use Rattle.data_model.specs.Transactions.{is_column}
use Rattle.tx_apply.proofs.values.is_wrong.Given as goal

abbrev pub invariant-loop-column : goal.invariant-loop-column
invariant-loop-column l = list_any (λ column. is_column l.cell.column column && is_none (fitted column.kind l.cell.value)) (drop l.column-index l.columns) ≡ list_any (λ column. is_column l.cell.column column && is_none (fitted column.kind l.cell.value)) l.columns
