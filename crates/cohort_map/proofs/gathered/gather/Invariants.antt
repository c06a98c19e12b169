use Rattle.std.proofs.Common.{take}
use Rattle.cohort_map.specs.Listed.{Gathers}
use Rattle.cohort_map.proofs.gathered.gather.Given as goal

abbrev pub invariant-loop-cohort : goal.invariant-loop-cohort
invariant-loop-cohort l = Gathers l.lists (take l.cohort-index l.cohorts) l.all.items
