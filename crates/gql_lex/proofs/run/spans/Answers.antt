use Rattle.gql_lex.proofs.SpanLemmas.{AreSpans-lexemes, AreInOrder-lexemes}
use Rattle.gql_lex.proofs.run.spans.Goals as goal

pub returns-clause-within : goal.returns-clause-within
returns-clause-within c = AreSpans-lexemes

pub returns-clause-in_order : goal.returns-clause-in_order
returns-clause-in_order c = AreInOrder-lexemes
