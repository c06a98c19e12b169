use Rattle.std.proofs.Common.{◌∷◌, [], None, false, refl}
use Rattle.std.specs.Prelude.{codes}
use Rattle.request_model.specs.declared.document.TypeRef.TheVariants as t
use Rattle.request_model.specs.Grammar.{Punct, no_more}
use Rattle.gql_ast.specs.Follow.{EndsDirectives}
use Rattle.gql_ast.proofs.Steps.{took_as, stops_as, both, first, second, took_under, stops_under, passed_on}
use Rattle.gql_ast.proofs.ValueRules.{some_name}
use Rattle.gql_ast.proofs.VariableRules as l
use Rattle.gql_ast.proofs.variables.variable.Goals as goal

pub returns-in_err-expect-clause-stops : goal.returns-in_err-expect-clause-stops
returns-in_err-expect-clause-stops c h =
    stops_as l.variable_rule tt (first (λ _ _ _ _ _. tt) (some_name ∷ Punct 58 ∷ some_name ∷ []) (codes "a", (tt, (t.Named (codes "a") false, (None, [])))) (λ s. (_, refl, (_, refl, l.made_type s)))
    (c.in_err-expect.ensures.stops (passed_on _ _ c.from_residual.ensures.1 h)))

pub returns-in_err-name-clause-stops : goal.returns-in_err-name-clause-stops
returns-in_err-name-clause-stops c h =
    stops_as l.variable_rule tt (second (λ _ _ _ _ _. tt) c.in_ok-expect.ensures.took
    (first (λ _ _ _ _ _. tt) (Punct 58 ∷ some_name ∷ []) (tt, (t.Named (codes "a") false, (None, []))) (λ s. (_, refl, l.made_type s)) (c.in_err-name.ensures.stops (passed_on _ _ c.from_residual-in_err-name.ensures.1 h))))

pub returns-in_err-expect-2-clause-stops : goal.returns-in_err-expect-2-clause-stops
returns-in_err-expect-2-clause-stops c h =
    stops_as l.variable_rule tt (second (λ _ _ _ _ _. tt) c.in_ok-expect.ensures.took (second (λ _ _ _ _ _. tt) c.in_ok-name.ensures.took
    (first (λ _ _ _ _ _. tt) (some_name ∷ []) (t.Named (codes "a") false, (None, [])) l.made_type (c.in_err-expect-2.ensures.stops (passed_on _ _ c.from_residual-in_err-expect-2.ensures.1 h)))))

pub returns-in_err-kind-clause-stops : goal.returns-in_err-kind-clause-stops
returns-in_err-kind-clause-stops c h =
    stops_as l.variable_rule tt (second (λ _ _ _ _ _. tt) c.in_ok-expect.ensures.took (second (λ _ _ _ _ _. tt) c.in_ok-name.ensures.took (second (λ _ _ _ _ _. tt) c.in_ok-expect-2.ensures.took
    (first l.tail_first [] (None, []) l.made_tail (c.in_err-kind.ensures.stops (passed_on _ _ c.from_residual-in_err-kind.ensures.1 h))))))

pub returns-in_err-default-clause-stops : goal.returns-in_err-default-clause-stops
returns-in_err-default-clause-stops c h =
    stops_as l.variable_rule tt (second (λ _ _ _ _ _. tt) c.in_ok-expect.ensures.took (second (λ _ _ _ _ _. tt) c.in_ok-name.ensures.took (second (λ _ _ _ _ _. tt) c.in_ok-expect-2.ensures.took
    (second l.tail_first c.in_ok-kind.ensures.took (first l.directives_equals [] [] (λ s. no_more) (c.in_err-default.ensures.stops (passed_on _ _ c.from_residual-in_err-default.ensures.1 h)))))))

pub returns-in_err-directives-clause-stops : goal.returns-in_err-directives-clause-stops
returns-in_err-directives-clause-stops c h =
    stops_as l.variable_rule tt (second (λ _ _ _ _ _. tt) c.in_ok-expect.ensures.took (second (λ _ _ _ _ _. tt) c.in_ok-name.ensures.took (second (λ _ _ _ _ _. tt) c.in_ok-expect-2.ensures.took
    (second l.tail_first c.in_ok-kind.ensures.took (second l.directives_equals c.in_ok-default.ensures.took
    (stops_under l.ends_directives (c.in_err-directives.ensures.stops (passed_on _ _ c.from_residual-in_err-directives.ensures.1 h))))))))

pub returns-clause-took : goal.returns-clause-took
returns-clause-took c =
    took_as l.variable_rule tt (both (λ _ _ _ _ _. tt) c.in_ok-expect.ensures.took (both (λ _ _ _ _ _. tt) c.in_ok-name.ensures.took (both (λ _ _ _ _ _. tt) c.in_ok-expect-2.ensures.took
    (both l.tail_first c.in_ok-kind.ensures.took (both l.directives_equals c.in_ok-default.ensures.took (took_under l.ends_directives c.in_ok-directives.ensures.took))))))
