use Rattle.std.proofs.Common.{◌∷◌, [], refl}
use Rattle.std.specs.Prelude.{codes}
use Rattle.request_model.specs.Grammar.{Name}
use Rattle.gql_ast.proofs.Steps.{took_as, stops_as, both, first, second, passed_on}
use Rattle.gql_ast.proofs.ValueRules.{some_name}
use Rattle.gql_ast.proofs.SelectionRules.{some_field, some_set_of, made_body}
use Rattle.gql_ast.proofs.DefinitionRules as l
use Rattle.gql_ast.proofs.definitions.fragment.Goals as goal

pub returns-in_err-called-clause-stops : goal.returns-in_err-called-clause-stops
returns-in_err-called-clause-stops c h =
    stops_as l.fragment_rule tt (first (λ _ _ _ _ _. tt) (Name (codes "on") ∷ some_name ∷ some_set_of) (tt, (codes "a", ([], some_field ∷ []))) (λ s. (_, refl, l.made_after_on s))
    (c.in_err-called.ensures.stops (passed_on _ _ c.from_residual.ensures.1 h)))

pub returns-in_err-expect_word-clause-stops : goal.returns-in_err-expect_word-clause-stops
returns-in_err-expect_word-clause-stops c h =
    stops_as l.fragment_rule tt (second (λ _ _ _ _ _. tt) c.in_ok-called.ensures.took
    (first (λ _ _ _ _ _. tt) (some_name ∷ some_set_of) (codes "a", ([], some_field ∷ [])) l.made_after_on (c.in_err-expect_word.ensures.stops (passed_on _ _ c.from_residual-in_err-expect_word.ensures.1 h))))

pub returns-in_err-on-clause-stops : goal.returns-in_err-on-clause-stops
returns-in_err-on-clause-stops c h =
    stops_as l.fragment_rule tt (second (λ _ _ _ _ _. tt) c.in_ok-called.ensures.took (second (λ _ _ _ _ _. tt) c.in_ok-expect_word.ensures.took
    (first (λ _ _ _ _ _. tt) some_set_of ([], some_field ∷ []) made_body (c.in_err-on.ensures.stops (passed_on _ _ c.from_residual-in_err-on.ensures.1 h)))))

pub returns-in_err-directives-clause-stops : goal.returns-in_err-directives-clause-stops
returns-in_err-directives-clause-stops c h =
    stops_as l.fragment_rule tt (second (λ _ _ _ _ _. tt) c.in_ok-called.ensures.took (second (λ _ _ _ _ _. tt) c.in_ok-expect_word.ensures.took (second (λ _ _ _ _ _. tt) c.in_ok-on.ensures.took
    (c.in_err-directives.ensures.stops (passed_on _ _ c.from_residual-in_err-directives.ensures.1 h)))))

pub returns-clause-took : goal.returns-clause-took
returns-clause-took c =
    took_as l.fragment_rule tt (both (λ _ _ _ _ _. tt) c.in_ok-called.ensures.took (both (λ _ _ _ _ _. tt) c.in_ok-expect_word.ensures.took (both (λ _ _ _ _ _. tt) c.in_ok-on.ensures.took c.in_ok-directives.ensures.took)))
