use Rattle.std.proofs.Common.{◌≡◌, ◌++◌, ◌∷◌, map, drop, if◌then◌else◌, string_bytes}
use Rattle.std.specs.List.{flat_map}
use Rattle.scalar_val.specs.Joined.{parted}
use Rattle.request_model.specs.Canonical.{value_text, pair_text}
use Rattle.gql_canon.proofs.values_text.+value.Given as goal

abbrev pub invariant-put_values-loop-value : goal.invariant-put_values-loop-value
invariant-put_values-loop-value l =
    let rest = map value_text (drop l.value-index l.values) in
    string_bytes l.out ++ (if l.first then parted 44 rest else flat_map (λ u. 44 ∷ u) rest)
    ≡ string_bytes l.fn.out ++ parted 44 (map value_text l.values)

abbrev pub invariant-put_pairs-loop-pair : goal.invariant-put_pairs-loop-pair
invariant-put_pairs-loop-pair l =
    let rest = map pair_text (drop l.pair-index l.pairs) in
    string_bytes l.out ++ (if l.first then parted 44 rest else flat_map (λ u. 44 ∷ u) rest)
    ≡ string_bytes l.fn.out ++ parted 44 (map pair_text l.pairs)
