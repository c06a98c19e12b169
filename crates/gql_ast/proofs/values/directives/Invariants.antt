use Rattle.std.proofs.Common.{◌≤◌, length}
use Rattle.request_model.specs.Grammar.{Directives}
use Rattle.gql_ast.specs.Follow.{EndsDirectives}
use Rattle.gql_ast.proofs.Loops.{Front}
use Rattle.gql_ast.proofs.values.directives.Given as goal

abbrev pub invariant-each : goal.invariant-each
invariant-each l = record { front : Front (Directives l.constant) EndsDirectives l.initial.tokens l.found l.tokens; left : length l.tokens ≤ length l.initial.tokens }

abbrev pub decreases-each : goal.decreases-each
decreases-each l = length l.tokens
