use Rattle.std.proofs.Common.{◌≡◌, take}
use Rattle.gql_flat.proofs.copies.copy_directives.Given as goal

abbrev pub invariant-loop-directive : goal.invariant-loop-directive
invariant-loop-directive l = l.copy ≡ take l.directive-index l.directives
