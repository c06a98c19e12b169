use Rattle.std.proofs.Common.{◌≡◌, take}
use Rattle.role_schema.specs.GrantNumbers.{columns_of}
use Rattle.role_schema.proofs.grants.columns_of.Given as goal

abbrev pub invariant-loop-grant : goal.invariant-loop-grant
invariant-loop-grant l = l.columns ≡ columns_of (take l.grant-index l.grants)
