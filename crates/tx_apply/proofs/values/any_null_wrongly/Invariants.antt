use Rattle.std.proofs.Common.{◌≡◌, drop}
use Rattle.std.specs.List.{list_any}
use Rattle.data_model.specs.Transactions.{is_null_wrongly}
use Rattle.tx_apply.proofs.values.any_null_wrongly.Given as goal

abbrev pub invariant-loop-cell : goal.invariant-loop-cell
invariant-loop-cell l = list_any (is_null_wrongly l.columns) (drop l.cell-index l.cells) ≡ list_any (is_null_wrongly l.columns) l.cells
