use Rattle.std.proofs.Common.{◌≡◌, drop}
use Rattle.std.specs.List.{list_any}
use Rattle.data_model.specs.Rows.{alike_at}
use Rattle.row_store.proofs.finding.clash.Given as goal

abbrev pub invariant-loop-column : goal.invariant-loop-column
invariant-loop-column l = list_any (alike_at l.a l.b) (drop l.column-index l.unique) ≡ list_any (alike_at l.a l.b) l.unique
