use Rattle.std.proofs.Common.{sym, ◌∙◌}
use Rattle.request_model.specs.Grammar.{query, mutation, subscription}
use Rattle.gql_ast.proofs.definitions.operation_word.Goals as goal

pub returns-then-eat_word-clause-some : goal.returns-then-eat_word-clause-some
returns-then-eat_word-clause-some c = (_, query, c.if-eat_word.ensures)

pub returns-then-eat_word-2-clause-some : goal.returns-then-eat_word-2-clause-some
returns-then-eat_word-2-clause-some c = (_, mutation, sym c.if-eat_word.ensures.0 ∙ c.if-eat_word-2.ensures)

pub returns-then-eat_word-3-clause-some : goal.returns-then-eat_word-3-clause-some
returns-then-eat_word-3-clause-some c = (_, subscription, sym c.if-eat_word.ensures.0 ∙ sym c.if-eat_word-2.ensures.0 ∙ c.if-eat_word-3.ensures)
