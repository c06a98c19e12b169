use Rattle.std.proofs.Common.{◌≡◌, ◌++◌, map, drop}
use Rattle.serde_json.specs.View.{view}
use Rattle.request_model.specs.Selection.{given_values, variable_bool}
use Rattle.gql_scope.proofs.scope.booleans_of.Given as goal

abbrev pub invariant-loop-variable : goal.invariant-loop-variable
invariant-loop-variable l = let boolean = variable_bool (given_values (view l.variables)) in
    l.booleans.items ++ map boolean (drop l.variable-index l.vars) ≡ map boolean l.vars
