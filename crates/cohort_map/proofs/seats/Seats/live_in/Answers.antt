use Rattle.std.proofs.Common.{◌≡◌, ◌∙◌, ℕ, List, IfOk, ap, subst}
use Rattle.std.specs.List.{filter, filter_map}
use Rattle.cohort_map.specs.Seats.{seat_numbers, is_live_in}
use Rattle.cohort_map.specs.Listed.{Seating, IsKnown, live_at}
use Rattle.cohort_map.proofs.Listing.{live_known}
use Rattle.cohort_map.proofs.seats.Seats.live_in.Goals as goal

pub returns-in-Some : goal.returns-in-Some
returns-in-Some c =
    let known : IsKnown c.self.inside.lists.items c.args.cohort c.in-Some.places.now = rw (← c.deref.ensures.value) c.in-Some.ensures in
    let read : filter_map (live_at c.args.cohort c.deref-in-Some.result.now) c.in-Some.places.now
    ≡ seat_numbers (filter (is_live_in c.args.cohort) c.args.self.now.seats) =
    rw c.deref-in-Some.ensures.value (live_known c.self.inside.seats.items c.self.inside.lists.items c.args.cohort c.in-Some.places.now
    c.self.invariant.held.cohorts known)
    ∙ ap (λ (s : Seating). seat_numbers (filter (is_live_in c.args.cohort) s.seats)) c.self.view_is in
    subst (λ (ns : List ℕ). IfOk c.live_numbers.result (λ subs. subs ≡ ns)) read c.live_numbers.ensures
