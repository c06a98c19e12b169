use Rattle.std.proofs.Common.{◌≡◌, drop, find}
use Rattle.std.specs.Str.{bytes_eq}
use Rattle.metadata_read.proofs.faults.table_by.Given as goal

abbrev pub invariant-loop-table : goal.invariant-loop-table
invariant-loop-table l = find (λ t. bytes_eq l.name t.name) (drop l.table-index l.tables) ≡ find (λ t. bytes_eq l.name t.name) l.tables
