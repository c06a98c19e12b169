use Rattle.std.proofs.Common.{◌≡◌, drop}
use Rattle.request_model.specs.Selection.{is_dropped}
use Rattle.gql_scope.proofs.scope.Scope.is_dropped.Given as goal

abbrev pub invariant-loop-directive : goal.invariant-loop-directive
invariant-loop-directive l = is_dropped l.self (drop l.directive-index l.directives) ≡ is_dropped l.self l.directives
