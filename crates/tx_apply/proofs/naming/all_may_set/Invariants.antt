use Rattle.std.proofs.Common.{◌≡◌, drop}
use Rattle.std.specs.List.{list_all}
use Rattle.data_model.specs.Transactions.{may_set}
use Rattle.tx_apply.proofs.naming.all_may_set.Given as goal

abbrev pub invariant-loop-cell : goal.invariant-loop-cell
invariant-loop-cell l = list_all (may_set l.table) (drop l.cell-index l.cells) ≡ list_all (may_set l.table) l.cells
