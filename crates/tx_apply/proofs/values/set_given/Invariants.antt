use Rattle.std.proofs.Common.{◌≡◌, map, take}
use Rattle.std.specs.List.{find}
use Rattle.data_model.specs.Transactions.{is_column, set_at}
use Rattle.tx_apply.proofs.values.set_given.Given as goal

abbrev pub invariant-loop-cell : goal.invariant-loop-cell
invariant-loop-cell l = l.set.items ≡ map (λ c. set_at l.table.columns c (find (is_column c.column) l.table.columns)) (take l.cell-index l.cells)
