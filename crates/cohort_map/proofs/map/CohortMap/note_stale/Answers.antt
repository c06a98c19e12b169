use Rattle.cohort_map.proofs.Polling.{polled_swept}
use Rattle.cohort_map.proofs.map.CohortMap.note_stale.Goals as goal

pub invariant_of-self : goal.invariant_of-self
invariant_of-self c = (
  c.self.invariant.0,
  c.self.invariant.1,
  polled_swept c.self.inside.keys c.self.inside.seats.seats c.get.result.now.poller c.self.inside.pollers
      c.sweep.new.pollers (rw (← c.as_slice.ensures) c.sweep.ensures) c.self.invariant.2,
)
