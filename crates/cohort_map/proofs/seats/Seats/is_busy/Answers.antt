use Rattle.std.proofs.Common.{◌∙◌, ap}
use Rattle.cohort_map.specs.Seats.{is_cohort_busy}
use Rattle.cohort_map.specs.Listed.{Seating, IsKnown}
use Rattle.cohort_map.proofs.Listing.{busy_known}
use Rattle.cohort_map.proofs.seats.Seats.is_busy.Goals as goal

pub returns-in-Some : goal.returns-in-Some
returns-in-Some c =
    let known : IsKnown c.self.inside.lists.items c.args.cohort c.in-Some.places.now = rw (← c.deref.ensures.value) c.in-Some.ensures in
    c.is_any_busy.ensures
    ∙ rw c.deref-in-Some.ensures.value (busy_known c.self.inside.seats.items c.self.inside.lists.items c.args.cohort c.in-Some.places.now
    c.self.invariant.held.cohorts known)
    ∙ ap (λ (s : Seating). is_cohort_busy s.seats c.args.cohort) c.self.view_is
