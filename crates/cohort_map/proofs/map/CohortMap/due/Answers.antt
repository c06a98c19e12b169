use Rattle.std.proofs.Common.{◌∙◌}
use Rattle.cohort_map.proofs.Views.{due_seen}
use Rattle.cohort_map.proofs.map.CohortMap.due.Goals as goal

pub returns : goal.returns
returns c = rw (← c.self.view_is) (c.count_due.ensures ∙ rw c.as_slice.ensures (due_seen c.self.inside.keys c.self.inside.seats.seats c.self.invariant.0.sound))
