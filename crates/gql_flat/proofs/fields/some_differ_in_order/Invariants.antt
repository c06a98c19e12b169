use Rattle.std.proofs.Common.{◌↔◌, drop}
use Rattle.request_model.specs.Selection.{Some_of, Differ}
use Rattle.gql_flat.proofs.fields.some_differ_in_order.Given as goal

-- where some differs, it is among those that are left
abbrev pub invariant-loop-field : goal.invariant-loop-field
invariant-loop-field l = Some_of (Differ l.first) l.others ↔ Some_of (Differ l.first) (drop l.field-index l.others)
