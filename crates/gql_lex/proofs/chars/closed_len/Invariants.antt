use Rattle.std.proofs.Common.{◌≡◌, ◌+◌, ◌-◌, ◌≤◌, length, drop}
use Rattle.std.specs.Option.{option_map}
use Rattle.request_model.specs.Strings.{closed_from}
use Rattle.gql_lex.proofs.chars.closed_len.Given as goal

abbrev pub invariant-each : goal.invariant-each
invariant-each l = record { so_far : closed_from 0 l.z ≡ option_map (λ n. l.at + n) (closed_from 0 (drop l.at l.z)); within : l.at ≤ length l.z }

abbrev pub decreases-each : goal.decreases-each
decreases-each l = length l.z - l.at
