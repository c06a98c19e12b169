use Rattle.std.proofs.Common.{◌≡◌, ◌-◌, ◌≤◌, length, drop}
use Rattle.request_model.specs.Lexemes.{lexemes_from, before}
use Rattle.gql_lex.proofs.run.tokens.Given as goal

abbrev pub invariant-each : goal.invariant-each
invariant-each l = record { so_far : before l.items.items (lexemes_from 0 l.at (drop l.at l.bytes)) ≡ lexemes_from 0 0 l.bytes; within : l.at ≤ length l.bytes }

abbrev pub decreases-each : goal.decreases-each
decreases-each l = length l.bytes - l.at
