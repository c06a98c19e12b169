use Rattle.std.proofs.Common.{subst}
use Rattle.request_model.specs.Selection.{Scope}
use Rattle.gql_scope.specs.Scopes.{AreVariables}
use Rattle.gql_scope.proofs.PlaceRules.{some_named, none_named}
use Rattle.gql_scope.proofs.scope.Scope.named_bool.Goals as goal

pub returns-in-Some : goal.returns-in-Some
returns-in-Some c =
    some_named c.args.self.now c.self.inside.names c.self.inside.booleans.items c.args.name.now
    (subst (λ (s : Scope). AreVariables s.values s.vars c.self.inside.names c.self.inside.booleans.items) c.self.view_is
    c.self.invariant)
    c.in-Some.place c.as_slice.result.now _ c.in-Some.ensures.first c.as_slice.ensures.value c.boolean_at.ensures

pub returns-in-None : goal.returns-in-None
returns-in-None c =
    none_named c.args.self.now c.self.inside.names c.self.inside.booleans.items c.args.name.now
    (subst (λ (s : Scope). AreVariables s.values s.vars c.self.inside.names c.self.inside.booleans.items) c.self.view_is
    c.self.invariant)
    c.in-None.ensures.first
