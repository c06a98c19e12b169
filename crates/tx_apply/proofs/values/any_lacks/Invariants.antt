use Rattle.std.proofs.Common.{◌≡◌, drop}
use Rattle.std.specs.List.{list_any}
use Rattle.data_model.specs.Transactions.{lacks}
use Rattle.tx_apply.proofs.values.any_lacks.Given as goal

abbrev pub invariant-loop-column : goal.invariant-loop-column
invariant-loop-column l = list_any (lacks l.cells) (drop l.column-index l.columns) ≡ list_any (lacks l.cells) l.columns
