use Rattle.std.proofs.Common.{◌≡◌, drop, find}
use Rattle.std.specs.Str.{bytes_eq}
use Rattle.metadata_read.proofs.plain.permission_of.Given as goal

abbrev pub invariant-loop-permission : goal.invariant-loop-permission
invariant-loop-permission l = find (λ p. bytes_eq l.role p.role) (drop l.permission-index l.permission-items) ≡ find (λ p. bytes_eq l.role p.role) l.table.select
