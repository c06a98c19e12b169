use Rattle.std.proofs.Common.{◌≡◌, take}
use Rattle.role_schema.specs.GrantNumbers.{tables_of}
use Rattle.role_schema.proofs.grants.tables_of.Given as goal

abbrev pub invariant-loop-grant : goal.invariant-loop-grant
invariant-loop-grant l = l.tables ≡ tables_of (take l.grant-index l.grants)
