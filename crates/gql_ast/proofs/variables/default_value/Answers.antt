use Rattle.gql_ast.proofs.Steps.{took_after, stops_after, took_under, stops_under, passed_on}
use Rattle.gql_ast.specs.Follow.{Anything}
use Rattle.gql_ast.proofs.VariableRules.{took_no_default, default_rule}
use Rattle.gql_ast.proofs.variables.default_value.Goals as goal

pub returns-then-not-eat-clause-took : goal.returns-then-not-eat-clause-took
returns-then-not-eat-clause-took c = took_no_default c.if-not-eat.ensures

pub returns-in_err-value-clause-stops : goal.returns-in_err-value-clause-stops
returns-in_err-value-clause-stops c h = stops_after default_rule c.if-not-eat.ensures (stops_under {F' = Anything} (λ _ _. tt) (c.in_err-value.ensures.stops (passed_on _ _ c.from_residual.ensures.1 h)))

pub returns-clause-took : goal.returns-clause-took
returns-clause-took c = took_after default_rule c.if-not-eat.ensures (took_under {F' = Anything} (λ _ _. tt) c.in_ok-value.ensures.took)
