use Rattle.std.proofs.Common.{◌∙◌, sym, ap, inl}
use Rattle.std.specs.List.{list_any}
use Rattle.request_model.specs.declared.document.VarDef.{VarDef}
use Rattle.request_model.specs.Selection as spec
use Rattle.gql_scope.proofs.refusals.has_stray.Goals as goal

pub returns-then-on_variables : goal.returns-then-on_variables
returns-then-on_variables c = (
  λ _. inl (sym (ap (λ (o : spec.Operation). list_any (λ (v : VarDef). spec.has_some v.directives) o.vars)
      c.operation.view_is) ∙ sym c.vars_have_directives-on_variables.ensures ∙ c.if-on_variables.true),
  λ _. c.if-on_variables.true,
)
