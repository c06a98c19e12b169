use Rattle.cohort_map.specs.Seats.{seat_opened}
use Rattle.cohort_map.proofs.Listing.{opened_keeps}
use Rattle.cohort_map.proofs.Polling.{polled_kept}
use Rattle.cohort_map.proofs.Seated.{opened_seated}
use Rattle.cohort_map.proofs.Views.{opened_seen}
use Rattle.cohort_map.proofs.map.CohortMap.open_job.Goals as goal

pub open-requires : goal.open-requires
open-requires c = c.self.invariant.0.rise

pub invariant_of-self : goal.invariant_of-self
invariant_of-self c =
    rw (c.open.ensures.seats, c.open.ensures.cohorts, c.as_slice.ensures) (
      opened_seated c.self.inside.keys c.self.inside.seats.seats c.self.inside.ready.items c.args.job c.args.members.now
          c.self.invariant.0,
      c.self.invariant.1,
      polled_kept (seat_opened c.args.job c.args.members.now) c.self.inside.keys c.self.inside.seats.seats
          c.self.inside.pollers (opened_keeps c.args.job c.args.members.now) c.self.invariant.2,
    )

pub returns-clause-entries : goal.returns-clause-entries
returns-clause-entries c =
    rw (← c.self.view_is, c.open.ensures.seats, c.as_slice.ensures) (opened_seen c.self.inside.keys c.args.job c.args.members.now c.self.inside.seats.seats)
