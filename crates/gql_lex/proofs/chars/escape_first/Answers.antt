use Rattle.std.proofs.Common.{sym, ◌∙◌}
use Rattle.gql_lex.proofs.StringLemmas.{escape_taken}
use Rattle.gql_lex.proofs.chars.escape_first.Goals as goal

pub returns-then-byte-eq92-clause-some : goal.returns-then-byte-eq92-clause-some
returns-then-byte-eq92-clause-some c = escape_taken _ _ (sym c.byte.ensures.value ∙ c.if-byte-eq92.true) c.escape.ensures.value c.escape.ensures.within
