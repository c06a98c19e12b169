use Rattle.std.proofs.Common.{◌≡◌, drop}
use Rattle.std.specs.List.{flat_map}
use Rattle.request_model.specs.Selection.{Selected, collecting, spreading}
use Rattle.gql_flat.proofs.collecting.collect_fields.Given as goal

-- what is left adds the rest
abbrev pub invariant-loop-field : goal.invariant-loop-field
invariant-loop-field l =
    let s = l.scope in
    collecting s (spreading s l.depth) (flat_map (λ (f : Selected). f.select) (drop l.field-index l.fields)) l.found
    ≡ collecting s (spreading s l.depth) (flat_map (λ (f : Selected). f.select) l.fields) l.fn.found
