use Rattle.std.proofs.Common.{◌<◌, arith}
use Rattle.gql_ast.proofs.ParseRules.{too_long_first}
use Rattle.gql_ast.proofs.CutRules.{cuts_of}
use Rattle.gql_ast.proofs.whole.parse.Goals as goal

pub returns-then-text-gt-LENGTH_LIMIT-clause-first : goal.returns-then-text-gt-LENGTH_LIMIT-clause-first
returns-then-text-gt-LENGTH_LIMIT-clause-first c = too_long_first c.args.text.now (omega arith)

pub parse_run-requires-clause-cuts : goal.parse_run-requires-clause-cuts
parse_run-requires-clause-cuts c = cuts_of c.args.text.now _ _ c.items.ensures c.requires c.utf8.text c.spans.ensures.within
