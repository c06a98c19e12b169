use Rattle.std.proofs.Common.{◌∙◌, length}
use Rattle.cohort_map.specs.Seats.{at, seat_ended}
use Rattle.cohort_map.proofs.Listing.{ended_keeps}
use Rattle.cohort_map.proofs.Polling.{polled_kept}
use Rattle.cohort_map.proofs.Seated.{ended_seated}
use Rattle.cohort_map.proofs.Views.{left_seen, has_seen, within_of}
use Rattle.cohort_map.proofs.map.CohortMap.end.Goals as goal

pub invariant_of-self : goal.invariant_of-self
invariant_of-self c =
    rw (c.end.ensures.seats, c.end.ensures.cohorts) (
      ended_seated c.self.inside.keys c.self.inside.seats.seats c.self.inside.ready.items c.args.sub c.self.invariant.0,
      c.self.invariant.1,
      polled_kept (at c.args.sub seat_ended) c.self.inside.keys c.self.inside.seats.seats c.self.inside.pollers
          (ended_keeps c.args.sub) c.self.invariant.2,
    )

pub returns-clause-entries : goal.returns-clause-entries
returns-clause-entries c =
    rw (← c.self.view_is, c.end.ensures.seats) (left_seen c.self.inside.keys c.args.sub c.self.inside.seats.seats)

pub returns-clause-answer : goal.returns-clause-answer
returns-clause-answer c =
    rw (← c.self.view_is) (c.end.ensures.answer
    ∙ has_seen c.self.inside.keys c.args.sub c.self.inside.seats.seats (within_of (length c.self.inside.keys) c.self.inside.seats.seats c.self.invariant.0.sound))
