use Rattle.std.proofs.Common.{◌≡◌, drop}
use Rattle.std.specs.List.{list_all}
use Rattle.data_model.specs.Transactions.{names_one, key_columns}
use Rattle.tx_apply.proofs.naming.all_name_key.Given as goal

abbrev pub invariant-loop-cell : goal.invariant-loop-cell
invariant-loop-cell l = list_all (names_one (key_columns l.table)) (drop l.cell-index l.cells) ≡ list_all (names_one (key_columns l.table)) l.cells
