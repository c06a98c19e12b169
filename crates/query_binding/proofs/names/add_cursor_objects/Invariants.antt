use Rattle.std.proofs.Common.{◌≡◌, map, drop}
use Rattle.query_binding.specs.Added.{texts, added_each, object_names}
use Rattle.query_binding.proofs.names.add_cursor_objects.Given as goal

abbrev pub invariant-loop-value : goal.invariant-loop-value
invariant-loop-value l =
    added_each (map object_names (drop l.value-index l.values)) (texts l.names)
    ≡ added_each (map object_names l.values) (texts l.initial.names)
