use Rattle.std.proofs.Common.{◌≡◌, drop}
use Rattle.std.specs.List.{list_any}
use Rattle.data_model.specs.Transactions.{is_cell_of}
use Rattle.tx_apply.proofs.naming.has_cell.Given as goal

abbrev pub invariant-loop-cell : goal.invariant-loop-cell
invariant-loop-cell l = list_any (is_cell_of l.column) (drop l.cell-index l.cells) ≡ list_any (is_cell_of l.column) l.cells
