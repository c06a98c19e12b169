use Rattle.std.proofs.Common.{sym, ◌∙◌, refl}
use Rattle.gql_ast.proofs.Steps.{took_after, stops_after, passed_on}
use Rattle.gql_ast.proofs.SelectionRules.{behind_rule}
use Rattle.gql_ast.proofs.DefinitionRules as l
use Rattle.gql_ast.proofs.definitions.definition.Goals as goal

pub returns-in_err-found-clause-stops : goal.returns-in_err-found-clause-stops
returns-in_err-found-clause-stops c h = stops_after (behind_rule _ _ _) c.if-eat_word.ensures (c.in_err-found.ensures.stops (passed_on _ _ c.from_residual.ensures.1 h))

pub returns-then-eat_word-clause-took : goal.returns-then-eat_word-clause-took
returns-then-eat_word-clause-took c = took_after (behind_rule _ _ _) c.if-eat_word.ensures c.in_ok-found.ensures.took

pub returns-in_default-clause-stops : goal.returns-in_default-clause-stops
returns-in_default-clause-stops c _ = l.stops_definition _ _ _ c.if-is_at.ensures c.if-eat_word.ensures c.in_default.ensures.some (c.in_default.ensures.none refl)

pub returns-in_err-request-clause-stops : goal.returns-in_err-request-clause-stops
returns-in_err-request-clause-stops c h =
    let q = c.in-Some.ensures.some in
    stops_after (behind_rule _ _ _) (sym c.if-eat_word.ensures.0 ∙ q.2) (c.in_err-request.ensures.stops (passed_on _ _ c.from_residual-in_err-request.ensures.1 h) q.0 q.1)

pub returns-clause-took : goal.returns-clause-took
returns-clause-took c =
    let q = c.in-Some.ensures.some in
    took_after (behind_rule _ _ _) (sym c.if-eat_word.ensures.0 ∙ q.2) (c.in_ok-request.ensures.took q.0 q.1)
