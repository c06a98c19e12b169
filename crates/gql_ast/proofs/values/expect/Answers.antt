use Rattle.gql_ast.proofs.OneLexeme.{took_punct, stops_punct}
use Rattle.gql_ast.proofs.values.expect.Goals as goal

pub returns-then-eat-clause-took : goal.returns-then-eat-clause-took
returns-then-eat-clause-took c = took_punct _ _ _ c.if-eat.ensures

pub returns-else-eat-clause-stops : goal.returns-else-eat-clause-stops
returns-else-eat-clause-stops c _ = stops_punct _ _ _ c.if-eat.ensures
