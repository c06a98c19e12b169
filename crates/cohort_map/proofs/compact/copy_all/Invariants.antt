use Rattle.std.proofs.Common.{take}
use Rattle.cohort_map.specs.Copies.{Copies}
use Rattle.cohort_map.proofs.compact.copy_all.Given as goal

abbrev pub invariant-loop-seat : goal.invariant-loop-seat
invariant-loop-seat l = Copies l.from (take l.seat-index l.all) l.keys l.seats
