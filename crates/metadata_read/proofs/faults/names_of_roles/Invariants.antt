use Rattle.std.proofs.Common.{◌≡◌, map, take}
use Rattle.metadata_read.proofs.faults.names_of_roles.Given as goal

abbrev pub invariant-loop-permission : goal.invariant-loop-permission
invariant-loop-permission l = l.names ≡ map (λ p. p.role) (take l.permission-index l.select)
