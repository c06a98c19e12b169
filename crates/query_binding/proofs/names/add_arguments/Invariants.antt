use Rattle.std.proofs.Common.{◌≡◌, map, drop}
use Rattle.query_binding.specs.Added.{texts, added_each, argument_names}
use Rattle.query_binding.proofs.names.add_arguments.Given as goal

abbrev pub invariant-loop-pair : goal.invariant-loop-pair
invariant-loop-pair l =
    added_each (map argument_names (drop l.pair-index l.args)) (texts l.names)
    ≡ added_each (map argument_names l.args) (texts l.initial.names)
