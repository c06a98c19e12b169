use Rattle.std.proofs.Common.{◌∙◌, sym, ap, find, option_and_then}
use Rattle.std.specs.Str.{bytes_eq}
use Rattle.request_model.specs.Selection as spec
use Rattle.request_model.specs.declared.document.VarDef.{VarDef}
use Rattle.gql_scope.proofs.PartRules.{bool_of_var}
use Rattle.gql_scope.proofs.scope.Scope.bool_of.Goals as goal

pub returns-in-Var : goal.returns-in-Var
returns-in-Var c =
    let s = c.args.self.now in
    c.named_bool.ensures ∙ ap (λ name. option_and_then (spec.variable_bool s.values)
    (find (λ (x : VarDef). bytes_eq name x.name) s.vars)) c.as_str.ensures
    ∙ sym (bool_of_var s c.in-Var.name) ∙ ap (spec.bool_of s) (sym c.in-Var.is)
