use Rattle.std.proofs.Common.{length}
use Rattle.request_model.specs.Grammar.{Many, IsDefinition}
use Rattle.gql_ast.specs.Follow.{AtEnd}
use Rattle.gql_ast.proofs.Loops.{Front}
use Rattle.gql_ast.proofs.definitions.definitions.Given as goal

abbrev pub invariant-each : goal.invariant-each
invariant-each l = Front (Many IsDefinition) AtEnd l.initial.tokens l.found l.tokens

abbrev pub decreases-each : goal.decreases-each
decreases-each l = length l.tokens
