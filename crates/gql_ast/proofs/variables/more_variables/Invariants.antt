use Rattle.std.proofs.Common.{◌≤◌, length}
use Rattle.request_model.specs.Grammar.{Many, IsVarDef}
use Rattle.gql_ast.specs.Reading.{Closed}
use Rattle.gql_ast.specs.Follow.{Anything}
use Rattle.gql_ast.proofs.Loops.{Front}
use Rattle.gql_ast.proofs.variables.more_variables.Given as goal

abbrev pub invariant-each : goal.invariant-each
invariant-each l = record { front : Front (Closed (Many IsVarDef) 41) Anything l.initial.tokens l.found l.tokens; left : length l.tokens ≤ length l.initial.tokens }

abbrev pub decreases-each : goal.decreases-each
decreases-each l = length l.tokens
