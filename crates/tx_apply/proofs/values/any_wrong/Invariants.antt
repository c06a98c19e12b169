use Rattle.std.proofs.Common.{◌≡◌, drop}
use Rattle.std.specs.List.{list_any}
use Rattle.data_model.specs.Transactions.{is_wrong}
use Rattle.tx_apply.proofs.values.any_wrong.Given as goal

abbrev pub invariant-loop-cell : goal.invariant-loop-cell
invariant-loop-cell l = list_any (is_wrong l.columns) (drop l.cell-index l.cells) ≡ list_any (is_wrong l.columns) l.cells
