use Rattle.std.proofs.Common.{◌≡◌, ◌++◌, ◌∷◌, map, drop, if◌then◌else◌, string_bytes}
use Rattle.std.specs.List.{flat_map}
use Rattle.scalar_val.specs.Joined.{parted}
use Rattle.request_model.specs.Canonical.{field_text}
use Rattle.gql_canon.proofs.canonical.+field.Given as goal

abbrev pub invariant-put_fields-loop-field : goal.invariant-put_fields-loop-field
invariant-put_fields-loop-field l =
    let rest = map field_text (drop l.field-index l.fields) in
    string_bytes l.out ++ (if l.first then parted 32 rest else flat_map (λ u. 32 ∷ u) rest)
    ≡ string_bytes l.fn.out ++ parted 32 (map field_text l.fields)
