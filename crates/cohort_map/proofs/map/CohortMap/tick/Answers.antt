use Rattle.std.proofs.Common.{◌∙◌, length, arith}
use Rattle.cohort_map.specs.Seats.{IsSound, IsWithin, seat_ticked}
use Rattle.cohort_map.proofs.Alls.{all_weaker}
use Rattle.cohort_map.proofs.Listing.{ticked_keeps}
use Rattle.cohort_map.proofs.Polling.{polled_kept}
use Rattle.cohort_map.proofs.Seated.{ticked_seated}
use Rattle.cohort_map.proofs.Views.{ticked_seen, due_seen, within_of}
use Rattle.cohort_map.proofs.map.CohortMap.tick.Goals as goal

pub tick-requires : goal.tick-requires
tick-requires c =
    let few = c.self.invariant.1 in
    all_weaker (IsSound (length c.self.inside.keys)) (IsWithin c.self.inside.seats.cohorts)
    (λ s sound. let within = sound.within in omega arith) c.self.inside.seats.seats c.self.invariant.0.sound

pub invariant_of-self : goal.invariant_of-self
invariant_of-self c =
    rw (c.tick.ensures.seats, c.tick.ensures.cohorts) (
      ticked_seated c.self.inside.keys c.self.inside.seats.seats c.self.inside.seats.seats c.self.inside.ready.items
          c.self.invariant.0,
      c.self.invariant.1,
      polled_kept (seat_ticked c.self.inside.seats.seats) c.self.inside.keys c.self.inside.seats.seats
          c.self.inside.pollers (ticked_keeps c.self.inside.seats.seats) c.self.invariant.2,
    )

pub returns-clause-entries : goal.returns-clause-entries
returns-clause-entries c =
    rw (← c.self.view_is, c.tick.ensures.seats)
    (ticked_seen c.self.inside.keys c.self.inside.seats.seats c.apart.ensures (within_of (length c.self.inside.keys) c.self.inside.seats.seats c.self.invariant.0.sound))

pub returns-clause-answer : goal.returns-clause-answer
returns-clause-answer c =
    c.tick.ensures.count ∙ rw c.tick.ensures.seats
    (due_seen c.self.inside.keys _ (ticked_seated c.self.inside.keys c.self.inside.seats.seats c.self.inside.seats.seats c.self.inside.ready.items c.self.invariant.0).sound)
