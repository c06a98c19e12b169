use Rattle.std.proofs.Common.{◌≡◌, map, drop, not}
use Rattle.std.specs.List.{list_any}
use Rattle.request_model.specs.Selection.{is_served}
use Rattle.gql_scope.proofs.walks.some_stray.Given as goal

abbrev pub invariant-loop-directive : goal.invariant-loop-directive
invariant-loop-directive l = list_any (λ x. not (is_served x)) (map (λ n. n.now) (drop l.directive-index l.directives))
    ≡ list_any (λ x. not (is_served x)) (map (λ n. n.now) l.directives)
