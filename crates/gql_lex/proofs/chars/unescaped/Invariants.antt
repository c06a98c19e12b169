use Rattle.std.proofs.Common.{◌≡◌, ◌++◌, ◌-◌, length, drop}
use Rattle.std.specs.Prelude.{string_bytes}
use Rattle.std.specs.Str.{IsCharBoundary}
use Rattle.request_model.specs.Strings.{unescaped_from}
use Rattle.gql_lex.proofs.chars.unescaped.Given as goal

abbrev pub invariant-each : goal.invariant-each
invariant-each l = record { so_far : string_bytes l.out ++ unescaped_from 0 (drop l.at l.bytes) ≡ unescaped_from 0 l.bytes; cut : IsCharBoundary l.bytes l.at }

abbrev pub decreases-each : goal.decreases-each
decreases-each l = length l.bytes - l.at
