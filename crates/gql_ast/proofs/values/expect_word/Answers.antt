use Rattle.gql_ast.proofs.OneLexeme.{took_word, stops_word}
use Rattle.gql_ast.proofs.values.expect_word.Goals as goal

pub returns-then-eat_word-clause-took : goal.returns-then-eat_word-clause-took
returns-then-eat_word-clause-took c = took_word _ _ _ c.if-eat_word.ensures

pub returns-else-eat_word-clause-stops : goal.returns-else-eat_word-clause-stops
returns-else-eat_word-clause-stops c _ = stops_word _ _ _ c.if-eat_word.ensures
