use Rattle.std.proofs.Common.{◌≡◌, drop}
use Rattle.data_model.specs.Rows.{set_cells}
use Rattle.row_store.proofs.row.with_cells.Given as goal

abbrev pub invariant-loop-cell : goal.invariant-loop-cell
invariant-loop-cell g l = set_cells (drop l.cell-index l.set) l.cells ≡ set_cells l.set l.fn.row
