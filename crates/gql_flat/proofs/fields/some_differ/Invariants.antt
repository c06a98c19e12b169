use Rattle.std.proofs.Common.{◌↔◌, drop}
use Rattle.request_model.specs.Selection.{Some_of, Differ}
use Rattle.gql_flat.proofs.fields.some_differ.Given as goal

-- where some differs, it is among those that are left
abbrev pub invariant-loop-index : goal.invariant-loop-index
invariant-loop-index l = Some_of (Differ l.first) l.others ↔ Some_of (Differ l.first) (drop l.index l.others)
