use Rattle.std.proofs.Common.{length}
use Rattle.cohort_map.proofs.Living.{all_kept, ascends}
use Rattle.cohort_map.proofs.Views.{within_of}
use Rattle.cohort_map.proofs.map.CohortMap.ascend.Goals as goal

pub returns-clause-numbers : goal.returns-clause-numbers
returns-clause-numbers c = rw (← c.self.view_is) (ascends c.self.inside.keys c.self.inside.seats.seats c.self.invariant.0.rise)

pub returns-clause-kept : goal.returns-clause-kept
returns-clause-kept c =
    rw (← c.self.view_is) (all_kept c.self.inside.keys c.self.inside.seats.seats (within_of (length c.self.inside.keys) c.self.inside.seats.seats c.self.invariant.0.sound))
