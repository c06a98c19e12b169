use Rattle.std.proofs.Common.{◌≡◌, map, drop}
use Rattle.query_model.specs.Queries.{value_names}
use Rattle.query_binding.specs.Added.{texts, added_each, pair_names}
use Rattle.query_binding.proofs.names.+value.Given as goal

abbrev pub invariant-add_values-loop-value : goal.invariant-add_values-loop-value
invariant-add_values-loop-value l =
    added_each (map value_names (drop l.value-index l.values)) (texts l.names)
    ≡ added_each (map value_names l.values) (texts l.fn.names)

abbrev pub invariant-add_pairs-loop-pair : goal.invariant-add_pairs-loop-pair
invariant-add_pairs-loop-pair l =
    added_each (map pair_names (drop l.pair-index l.pairs)) (texts l.names)
    ≡ added_each (map pair_names l.pairs) (texts l.fn.names)
