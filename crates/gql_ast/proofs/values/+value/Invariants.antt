use Rattle.std.proofs.Common.{◌≤◌, ◌+◌, ◌*◌, length}
use Rattle.request_model.specs.Grammar.{IsValues, IsPairs}
use Rattle.gql_ast.specs.Reading.{Closed}
use Rattle.gql_ast.specs.Follow.{Anything}
use Rattle.gql_ast.proofs.Loops.{Front}
use Rattle.gql_ast.proofs.values.+value.Given as goal

abbrev pub decreases-value : goal.decreases-value
decreases-value l = 3 * length l.tokens.now

abbrev pub decreases-pair : goal.decreases-pair
decreases-pair l = 3 * length l.tokens.now + 1

abbrev pub decreases-values : goal.decreases-values
decreases-values l = 3 * length l.tokens.now + 2

abbrev pub decreases-pairs : goal.decreases-pairs
decreases-pairs l = 3 * length l.tokens.now + 2

abbrev pub invariant-values-each : goal.invariant-values-each
invariant-values-each l = record { front : Front (Closed (IsValues l.constant) 93) Anything l.initial.tokens l.found l.tokens; left : length l.tokens ≤ length l.initial.tokens }

abbrev pub decreases-values-each : goal.decreases-values-each
decreases-values-each l = length l.tokens

abbrev pub invariant-pairs-each : goal.invariant-pairs-each
invariant-pairs-each l = record { front : Front (Closed (IsPairs l.constant) l.close) Anything l.initial.tokens l.found l.tokens; left : length l.tokens ≤ length l.initial.tokens }

abbrev pub decreases-pairs-each : goal.decreases-pairs-each
decreases-pairs-each l = length l.tokens
