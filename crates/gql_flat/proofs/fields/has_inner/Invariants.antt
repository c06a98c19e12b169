use Rattle.std.proofs.Common.{◌≡◌, drop}
use Rattle.std.specs.List.{list_any}
use Rattle.request_model.specs.Selection.{fields_of}
use Rattle.request_model.specs.Selection as spec
use Rattle.gql_flat.proofs.fields.has_inner.Given as goal

abbrev pub invariant-loop-field : goal.invariant-loop-field
invariant-loop-field l = list_any spec.has_inner (drop l.field-index l.group.others)
    ≡ list_any spec.has_inner (fields_of l.group)
