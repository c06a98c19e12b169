use Rattle.std.proofs.Common.{◌≡◌, drop}
use Rattle.std.specs.Cmp.Lexicographic.{slice_cmp}
use Rattle.cohort_map.specs.Keys.{slot_cmp}
use Rattle.cohort_map.proofs.order.compare_all_slots.Given as goal

abbrev pub invariant-loop-slot : goal.invariant-loop-slot
invariant-loop-slot l = slice_cmp slot_cmp (drop l.slot-index l.a) l.rest ≡ slice_cmp slot_cmp l.a l.b
