use Rattle.std.proofs.Common.{◌≡◌}
use Rattle.std.specs.Vec.Iter.{into_iter_items}
use Rattle.query_model.specs.Admission.{slots_given}
use Rattle.query_binding.proofs.SessionRules.{after_values}
use Rattle.query_binding.proofs.session.session_values.Given as goal

abbrev pub invariant-loop-slot : goal.invariant-loop-slot
invariant-loop-slot l =
    slots_given l.session l.fn.slots ≡ after_values l.values (slots_given l.session (into_iter_items l.slot-iterator))
