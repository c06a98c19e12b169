use Rattle.std.proofs.Common.{◌≡◌, drop, codes}
use Rattle.std.specs.List.{list_any}
use Rattle.std.specs.Str.{bytes_eq}
use Rattle.metadata_read.proofs.faults.names_admin.Given as goal

abbrev pub invariant-loop-permission : goal.invariant-loop-permission
invariant-loop-permission l = list_any (λ p. bytes_eq p.role (codes "admin")) (drop l.permission-index l.select) ≡ list_any (λ p. bytes_eq p.role (codes "admin")) l.select
