use Rattle.std.proofs.Common.{◌≡◌, map, take}
use Rattle.role_schema.specs.GrantNumbers.{index_of}
use Rattle.role_schema.proofs.grants.indexes_of_all.Given as goal

abbrev pub invariant-loop-role : goal.invariant-loop-role
invariant-loop-role l = l.indexes ≡ map index_of (take l.role-index l.roles)
