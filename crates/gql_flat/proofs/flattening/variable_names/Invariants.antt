use Rattle.std.proofs.Common.{◌≡◌, ◌++◌, map, drop}
use Rattle.request_model.specs.declared.document.VarDef.{VarDef}
use Rattle.gql_flat.proofs.flattening.variable_names.Given as goal

abbrev pub invariant-loop-variable : goal.invariant-loop-variable
invariant-loop-variable l = map (λ n. n.now) l.names.items
    ++ map (λ (v : VarDef). v.name) (drop l.variable-index l.variables) ≡ map (λ (v : VarDef). v.name) l.variables
