use Rattle.std.proofs.Common.{◌≤◌, ◌+◌, ◌*◌, length}
use Rattle.request_model.specs.Grammar.{IsSelections}
use Rattle.gql_ast.specs.Reading.{Closed}
use Rattle.gql_ast.specs.Follow.{Anything}
use Rattle.gql_ast.proofs.Loops.{Front}
use Rattle.gql_ast.proofs.selections.+selection.Given as goal

abbrev pub decreases-set : goal.decreases-set
decreases-set l = 4 * length l.tokens.now

abbrev pub decreases-maybe_set : goal.decreases-maybe_set
decreases-maybe_set l = 4 * length l.tokens.now + 1

abbrev pub decreases-body : goal.decreases-body
decreases-body l = 4 * length l.tokens.now + 1

abbrev pub decreases-selection : goal.decreases-selection
decreases-selection l = 4 * length l.tokens.now + 1

abbrev pub decreases-selections : goal.decreases-selections
decreases-selections l = 4 * length l.tokens.now + 2

abbrev pub decreases-after_dots : goal.decreases-after_dots
decreases-after_dots l = 4 * length l.tokens.now + 2

abbrev pub decreases-on_type : goal.decreases-on_type
decreases-on_type l = 4 * length l.tokens.now + 1

abbrev pub invariant-selections-each : goal.invariant-selections-each
invariant-selections-each l = record { front : Front (Closed IsSelections 125) Anything l.initial.tokens l.found l.tokens; left : length l.tokens ≤ length l.initial.tokens }

abbrev pub decreases-selections-each : goal.decreases-selections-each
decreases-selections-each l = length l.tokens
