use Rattle.std.proofs.Common.{◌≡◌, drop}
use Rattle.std.specs.List.{list_any}
use Rattle.data_model.specs.Rows.{clash}
use Rattle.row_store.proofs.finding.clashes.Given as goal

abbrev pub invariant-loop-row : goal.invariant-loop-row
invariant-loop-row l = list_any (clash l.table l.cells) (drop l.row-index l.rows) ≡ list_any (clash l.table l.cells) l.rows
