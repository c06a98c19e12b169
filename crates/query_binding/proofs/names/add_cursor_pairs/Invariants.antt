use Rattle.std.proofs.Common.{◌≡◌, map, drop}
use Rattle.query_binding.specs.Added.{texts, added_each, cursor_pair_names}
use Rattle.query_binding.proofs.names.add_cursor_pairs.Given as goal

abbrev pub invariant-loop-pair : goal.invariant-loop-pair
invariant-loop-pair l =
    added_each (map cursor_pair_names (drop l.pair-index l.pairs)) (texts l.names)
    ≡ added_each (map cursor_pair_names l.pairs) (texts l.initial.names)
