use Rattle.std.proofs.Common.{◌≡◌, ◌&&◌, map, drop}
use Rattle.request_model.specs.declared.document.Directive.{Directive}
use Rattle.std.specs.Prelude.{is_none}
use Rattle.std.specs.List.{list_any}
use Rattle.request_model.specs.Selection.{is_served, condition}
use Rattle.gql_scope.proofs.walks.some_without_boolean.Given as goal

abbrev pub invariant-loop-directive : goal.invariant-loop-directive
invariant-loop-directive l = let lacks = λ (x : Directive). is_served x && is_none (condition l.scope x) in
    list_any lacks (map (λ n. n.now) (drop l.directive-index l.directives))
    ≡ list_any lacks (map (λ n. n.now) l.directives)
