use Rattle.std.proofs.Common.{◌≡◌, drop}
use Rattle.std.specs.List.{find}
use Rattle.data_model.specs.Transactions.{is_cell_of}
use Rattle.tx_apply.proofs.naming.cell_of.Given as goal

abbrev pub invariant-loop-cell : goal.invariant-loop-cell
invariant-loop-cell l = find (is_cell_of l.column) (drop l.cell-index l.cells) ≡ find (is_cell_of l.column) l.cells
