use Rattle.std.proofs.Common.{◌≡◌, ◌++◌, ◌∷◌, map, drop, if◌then◌else◌, string_bytes}
use Rattle.std.specs.List.{flat_map}
use Rattle.scalar_val.specs.Joined.{parted}
use Rattle.request_model.specs.Canonical.{cursor_pair}
use Rattle.gql_canon.proofs.values_text.put_cursor_pairs.Given as goal

abbrev pub invariant-loop-pair : goal.invariant-loop-pair
invariant-loop-pair l =
    let rest = map cursor_pair (drop l.pair-index l.pairs) in
    string_bytes l.out ++ (if l.first then parted 44 rest else flat_map (λ u. 44 ∷ u) rest)
    ≡ string_bytes l.fn.out ++ parted 44 (map cursor_pair l.pairs)
