use Rattle.std.proofs.Common.{◌∷◌, []}
use Rattle.request_model.specs.Grammar.{Punct, no_pairs}
use Rattle.gql_ast.specs.Follow.{Anything}
use Rattle.gql_ast.proofs.Steps.{took_after, stops_after, both, first, second, took_under, stops_under, passed_on}
use Rattle.gql_ast.proofs.ValueRules as l
use Rattle.gql_ast.proofs.values.arguments.Goals as goal

pub returns-then-not-eat-clause-took : goal.returns-then-not-eat-clause-took
returns-then-not-eat-clause-took c = rw c.new.ensures (l.took_no_arguments c.args.constant c.if-not-eat.ensures)

pub returns-in_err-first-clause-stops : goal.returns-in_err-first-clause-stops
returns-in_err-first-clause-stops c h =
    stops_after (l.arguments_rule c.args.constant) c.if-not-eat.ensures (stops_under {F' = Anything} (λ _ _. tt) (first (λ _ _ _ _ _. tt) (Punct 41 ∷ []) [] (λ s. no_pairs) (c.in_err-first.ensures.stops (passed_on _ _ c.from_residual.ensures.1 h))))

pub returns-in_err-others-clause-stops : goal.returns-in_err-others-clause-stops
returns-in_err-others-clause-stops c h =
    stops_after (l.arguments_rule c.args.constant) c.if-not-eat.ensures (stops_under {F' = Anything} (λ _ _. tt) (second (λ _ _ _ _ _. tt) c.in_ok-first.ensures.took (c.in_err-others.ensures.stops (passed_on _ _ c.from_residual-in_err-others.ensures.1 h))))

pub returns-clause-took : goal.returns-clause-took
returns-clause-took c =
    rw c.in_ok-cons.ensures (took_after (l.arguments_rule c.args.constant) c.if-not-eat.ensures (took_under {F' = Anything} (λ _ _. tt) (both (λ _ _ _ _ _. tt) c.in_ok-first.ensures.took c.in_ok-others.ensures.took)))
