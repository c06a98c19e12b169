use Rattle.std.proofs.Common.{◌∷◌, [], refl}
use Rattle.std.specs.Prelude.{codes}
use Rattle.request_model.specs.Grammar.{no_arguments}
use Rattle.gql_ast.proofs.Steps.{took_as, stops_as, both, first, second, passed_on}
use Rattle.gql_ast.proofs.ValueRules as l
use Rattle.gql_ast.proofs.values.directive.Goals as goal

pub returns-in_err-expect-clause-stops : goal.returns-in_err-expect-clause-stops
returns-in_err-expect-clause-stops c h =
    stops_as (l.directive_rule c.args.constant) tt (first (λ _ _ _ _ _. tt) (l.some_name ∷ []) (codes "a", []) (λ s. (s, refl, no_arguments)) (c.in_err-expect.ensures.stops (passed_on _ _ c.from_residual.ensures.1 h)))

pub returns-in_err-name-clause-stops : goal.returns-in_err-name-clause-stops
returns-in_err-name-clause-stops c h =
    stops_as (l.directive_rule c.args.constant) tt (second (λ _ _ _ _ _. tt) c.in_ok-expect.ensures.took (first (λ _ _ _ _ _. tt) [] [] (λ s. no_arguments) (c.in_err-name.ensures.stops (passed_on _ _ c.from_residual-in_err-name.ensures.1 h))))

pub returns-in_err-args-clause-stops : goal.returns-in_err-args-clause-stops
returns-in_err-args-clause-stops c h =
    stops_as (l.directive_rule c.args.constant) tt (second (λ _ _ _ _ _. tt) c.in_ok-expect.ensures.took (second (λ _ _ _ _ _. tt) c.in_ok-name.ensures.took (c.in_err-args.ensures.stops (passed_on _ _ c.from_residual-in_err-args.ensures.1 h))))

pub returns-clause-took : goal.returns-clause-took
returns-clause-took c = took_as (l.directive_rule c.args.constant) tt (both (λ _ _ _ _ _. tt) c.in_ok-expect.ensures.took (both (λ _ _ _ _ _. tt) c.in_ok-name.ensures.took c.in_ok-args.ensures.took))
