use Rattle.std.proofs.Common.{take}
use Rattle.cohort_map.specs.Polled.{ArePolled}
use Rattle.cohort_map.proofs.polled.list_all.Given as goal

abbrev pub invariant-loop-place : goal.invariant-loop-place
invariant-loop-place l = ArePolled l.keys (take l.place l.seats) l.pollers
