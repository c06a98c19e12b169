use Rattle.std.proofs.Common.{◌≡◌, map, drop}
use Rattle.query_model.specs.Refusals.{first_of}
use Rattle.query_model.specs.Walk.{field_fault}
use Rattle.selection_check.proofs.walk.+field.Given as goal

abbrev pub invariant-fields_fault-loop-field : goal.invariant-fields_fault-loop-field
invariant-fields_fault-loop-field l =
    first_of (map (λ f. field_fault l.vars l.view f l.table) (drop l.field-index l.fields))
    ≡ first_of (map (λ f. field_fault l.vars l.view f l.table) l.fields)
