use Rattle.cohort_map.specs.Seats.{seat_closed}
use Rattle.cohort_map.proofs.Listing.{closed_keeps}
use Rattle.cohort_map.proofs.Polling.{polled_kept}
use Rattle.cohort_map.proofs.Seated.{closed_seated}
use Rattle.cohort_map.proofs.Views.{closed_seen}
use Rattle.cohort_map.proofs.map.CohortMap.close_job.Goals as goal

pub invariant_of-self : goal.invariant_of-self
invariant_of-self c =
    rw (c.close.ensures.seats, c.close.ensures.cohorts) (
      closed_seated c.self.inside.keys c.self.inside.seats.seats c.self.inside.ready.items c.args.job c.args.due
          c.self.invariant.0,
      c.self.invariant.1,
      polled_kept (seat_closed c.args.job c.args.due) c.self.inside.keys c.self.inside.seats.seats c.self.inside.pollers
          (closed_keeps c.args.job c.args.due) c.self.invariant.2,
    )

pub returns-clause-entries : goal.returns-clause-entries
returns-clause-entries c =
    rw (← c.self.view_is, c.close.ensures.seats) (closed_seen c.self.inside.keys c.args.job c.args.due c.self.inside.seats.seats)
