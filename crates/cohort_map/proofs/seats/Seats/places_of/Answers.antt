use Rattle.std.proofs.Common.{subst, List}
use Rattle.place_list.specs.Places.{Places}
use Rattle.cohort_map.specs.Listed.{Seating, HasPlaces, Gathers}
use Rattle.cohort_map.proofs.Due.{gathered_places}
use Rattle.cohort_map.proofs.seats.Seats.places_of.Goals as goal

pub returns-in-Some : goal.returns-in-Some
returns-in-Some c =
    let told = rw c.in-Some.is at c.in_ok-found.ensures in
    let gathers = subst (λ (ls : List Places). Gathers ls c.args.cohorts.now c.in-Some.places.items) c.deref.ensures.value told in
    subst (λ (s : Seating). HasPlaces s.seats c.args.cohorts.now c.in_order.result.items) c.self.view_is
    (gathered_places c.self.inside.seats.items c.self.inside.lists.items c.args.cohorts.now c.in-Some.places.items c.in_order.result.items
    c.self.invariant.held.cohorts gathers c.in_order.ensures.ascend c.in_order.ensures.keeps)
