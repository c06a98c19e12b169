use Rattle.std.proofs.Common.{◌≡◌, drop, nat_lt, length}
use Rattle.std.specs.List.{list_any}
use Rattle.metadata_read.proofs.faults.has_a_wide_table.Given as goal

abbrev pub invariant-loop-table : goal.invariant-loop-table
invariant-loop-table l = list_any (λ t. nat_lt 64 (length t.columns)) (drop l.table-index l.tables) ≡ list_any (λ t. nat_lt 64 (length t.columns)) l.tables
