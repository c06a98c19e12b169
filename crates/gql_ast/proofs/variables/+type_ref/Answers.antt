use Rattle.std.proofs.Common.{◌∷◌, [], false, refl}
use Rattle.request_model.specs.Grammar.{Punct}
use Rattle.gql_ast.proofs.Steps.{took_as, stops_as, took_after, stops_after, both, first, second, took_from, stops_from, passed_on}
use Rattle.gql_ast.proofs.VariableRules as l
use Rattle.gql_ast.proofs.variables.+type_ref.Goals as goal

pub returns-in_err-inner-clause-stops : goal.returns-in_err-inner-clause-stops
returns-in_err-inner-clause-stops t c h =
    stops_after l.listed_rule c.if-eat.ensures (first l.closing_first (Punct 93 ∷ []) (tt, false) (λ s. (_, refl, refl)) (c.in_err-inner.ensures.stops (passed_on _ _ c.from_residual.ensures.1 h)))

pub returns-in_err-expect-clause-stops : goal.returns-in_err-expect-clause-stops
returns-in_err-expect-clause-stops t c h =
    stops_after l.listed_rule c.if-eat.ensures (second l.closing_first c.in_ok-inner.ensures.took (first (λ _ _ _ _ _. tt) [] false (λ s. refl) (c.in_err-expect.ensures.stops (passed_on _ _ c.from_residual-in_err-expect.ensures.1 h))))

pub returns-then-eat-clause-took : goal.returns-then-eat-clause-took
returns-then-eat-clause-took t c =
    rw c.in_ok-item.ensures (took_after l.listed_rule c.if-eat.ensures (both l.closing_first c.in_ok-inner.ensures.took (both (λ _ _ _ _ _. tt) c.in_ok-expect.ensures.took c.strict-strict.ensures.took)))

pub returns-in_err-name-clause-stops : goal.returns-in_err-name-clause-stops
returns-in_err-name-clause-stops t c h =
    stops_as l.named_rule c.if-eat.ensures.1 (stops_from c.if-eat.ensures.0 (first (λ _ _ _ _ _. tt) [] false (λ s. refl) (c.in_err-name.ensures.stops (passed_on _ _ c.from_residual-in_err-name.ensures.1 h))))

pub returns-clause-took : goal.returns-clause-took
returns-clause-took t c = took_as l.named_rule c.if-eat.ensures.1 (took_from c.if-eat.ensures.0 (both (λ _ _ _ _ _. tt) c.in_ok-name.ensures.took c.strict-strict-2.ensures.took))
