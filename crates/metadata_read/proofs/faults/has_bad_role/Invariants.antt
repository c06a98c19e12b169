use Rattle.std.proofs.Common.{◌≡◌, drop, codes}
use Rattle.std.specs.List.{list_any}
use Rattle.std.specs.Str.{bytes_eq}
use Rattle.metadata_read.proofs.faults.has_bad_role.Given as goal

abbrev pub invariant-loop-table : goal.invariant-loop-table
invariant-loop-table l = list_any (λ t. list_any (λ p. bytes_eq p.role (codes "admin")) t.select) (drop l.table-index l.table-items) ≡ list_any (λ t. list_any (λ p. bytes_eq p.role (codes "admin")) t.select) l.document.tables
