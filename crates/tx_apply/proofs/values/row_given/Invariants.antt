use Rattle.std.proofs.Common.{◌≡◌, map, take}
use Rattle.data_model.specs.Transactions.{given}
use Rattle.tx_apply.proofs.values.row_given.Given as goal

abbrev pub invariant-loop-column : goal.invariant-loop-column
invariant-loop-column l = l.row.items ≡ map (given l.cells) (take l.column-index l.columns)
