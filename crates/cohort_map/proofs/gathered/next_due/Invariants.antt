use Rattle.std.proofs.Common.{◌-◌, length}
use Rattle.cohort_map.specs.Listed.{NoneDue}
use Rattle.cohort_map.proofs.gathered.next_due.Given as goal

abbrev pub invariant-loop-place : goal.invariant-loop-place
invariant-loop-place l = NoneDue l.fn.from l.seats → NoneDue l.place l.seats

abbrev pub decreases-loop-place : goal.decreases-loop-place
decreases-loop-place l = length l.seats - l.place
