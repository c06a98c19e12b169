use Rattle.std.proofs.Common.{◌≡◌, drop}
use Rattle.std.specs.List.{list_all}
use Rattle.data_model.specs.Transactions.{names_one}
use Rattle.tx_apply.proofs.naming.all_name_one.Given as goal

abbrev pub invariant-loop-cell : goal.invariant-loop-cell
invariant-loop-cell l = list_all (names_one l.columns) (drop l.cell-index l.cells) ≡ list_all (names_one l.columns) l.cells
