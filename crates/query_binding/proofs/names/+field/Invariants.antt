use Rattle.std.proofs.Common.{◌≡◌, map, drop}
use Rattle.query_binding.specs.Added.{texts, added_each, field_names}
use Rattle.query_binding.proofs.names.+field.Given as goal

abbrev pub invariant-add_fields-loop-field : goal.invariant-add_fields-loop-field
invariant-add_fields-loop-field l =
    added_each (map field_names (drop l.field-index l.fields)) (texts l.names)
    ≡ added_each (map field_names l.fields) (texts l.fn.names)
