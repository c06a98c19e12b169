use Rattle.std.proofs.Common.{◌∙◌, sym}
use Rattle.cohort_map.specs.Keys.{slot_cmp}
use Rattle.cohort_map.proofs.Longer.{longer}
use Rattle.cohort_map.proofs.order.compare_all_slots.Goals as goal

pub returns-in_default : goal.returns-in_default
returns-in_default c = sym (longer slot_cmp c.args.a.now c.loop-slot.slot-index c.loop-slot.rest.now c.loop-slot-test.true c.in_default.len_below) ∙ c.loop-slot.invariant
