use Rattle.std.proofs.Common.{◌≡◌, map}
use Rattle.selection_plan.specs.SlotRefs.{slot_said}
use Rattle.selection_plan.proofs.slot_ref.owned_slots.Given as goal

abbrev pub invariant-loop-slot : goal.invariant-loop-slot
invariant-loop-slot l = l.list ≡ map slot_said (map (λ s. s.now) l.yielded)
