use Rattle.std.proofs.Common.{◌≡◌, ◌++◌, map, drop}
use Rattle.request_model.specs.declared.document.VarDef.{VarDef}
use Rattle.gql_scope.proofs.scope.names_of.Given as goal

abbrev pub invariant-loop-variable : goal.invariant-loop-variable
invariant-loop-variable l = l.names ++ map (λ (v : VarDef). v.name) (drop l.variable-index l.vars)
    ≡ map (λ (v : VarDef). v.name) l.vars
