use Rattle.gql_ast.proofs.Steps.{passed_on}
use Rattle.gql_ast.proofs.SelectionRules as l
use Rattle.gql_ast.proofs.selections.field_name.Goals as goal

pub returns-in_err-first-clause-stops : goal.returns-in_err-first-clause-stops
returns-in_err-first-clause-stops c h = l.stops_field_name (c.in_err-first.ensures.stops (passed_on _ _ c.from_residual.ensures.1 h))

pub returns-then-not-eat-clause-took : goal.returns-then-not-eat-clause-took
returns-then-not-eat-clause-took c = l.took_plain c.in_ok-first.ensures.took c.if-not-eat.ensures

pub returns-in_err-second-clause-stops : goal.returns-in_err-second-clause-stops
returns-in_err-second-clause-stops c h = l.stops_aliased c.in_ok-first.ensures.took c.if-not-eat.ensures (c.in_err-second.ensures.stops (passed_on _ _ c.from_residual-in_err-second.ensures.1 h))

pub returns-clause-took : goal.returns-clause-took
returns-clause-took c = l.took_aliased c.in_ok-first.ensures.took c.if-not-eat.ensures c.in_ok-second.ensures.took
