use Rattle.std.proofs.Common.{◌≡◌, drop}
use Rattle.std.specs.List.{list_any}
use Rattle.request_model.specs.declared.document.VarDef.{VarDef}
use Rattle.request_model.specs.Selection.{has_some}
use Rattle.gql_scope.proofs.walks.vars_have_directives.Given as goal

abbrev pub invariant-loop-variable : goal.invariant-loop-variable
invariant-loop-variable l = list_any (λ (v : VarDef). has_some v.directives) (drop l.variable-index l.vars)
    ≡ list_any (λ (v : VarDef). has_some v.directives) l.vars
