use Rattle.std.proofs.Common.{◌≡◌, ◌++◌, map, drop}
use Rattle.gql_scope.proofs.spreads.put_all.Given as goal

abbrev pub invariant-loop-directive : goal.invariant-loop-directive
invariant-loop-directive l = map (λ n. n.now) l.found.items ++ drop l.directive-index l.directives
    ≡ map (λ n. n.now) l.fn.found.items ++ l.directives
