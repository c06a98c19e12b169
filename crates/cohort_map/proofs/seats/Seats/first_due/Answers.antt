use Rattle.std.proofs.Common.{◌≡◌, ◌<◌, sym, subst, length, arith, List, None}
use Rattle.std.specs.List.{find}
use Rattle.cohort_map.specs.declared.seat.Seat.{Seat}
use Rattle.cohort_map.specs.Seats.{seat_due}
use Rattle.cohort_map.specs.Listed.{Seating, IsFirstDue, NoneDue}
use Rattle.cohort_map.proofs.Due.{first_at, find_nobody}
use Rattle.cohort_map.proofs.seats.Seats.first_due.Goals as goal

pub returns-then-place-len-clause-some : goal.returns-then-place-len-clause-some
returns-then-place-len-clause-some c =
    let same = c.deref.ensures.value in
    let none = subst (λ (ss : List Seat). NoneDue c.next_due-place.result ss) same
    (c.next_due-place.ensures.none (subst (λ (ss : List Seat). NoneDue c.self.inside.first ss) (sym same) c.self.invariant.least)) in
    let within : c.next_due-place.result < length c.self.inside.seats.items = omega (arith, c.if-place-len.true, c.len.ensures, c.self.inside.seats.ok.0) in
    subst (λ (s : Seating). IsFirstDue s.seats c.next_due-place.result) c.self.view_is
    (first_at c.self.inside.seats.items c.next_due-place.result none within (rw (← same) (c.next_due-place.ensures.due (rw same within))))

pub returns-else-place-len-clause-none : goal.returns-else-place-len-clause-none
returns-else-place-len-clause-none c =
    let same = c.deref.ensures.value in
    let none = subst (λ (ss : List Seat). NoneDue c.next_due-place.result ss) same
    (c.next_due-place.ensures.none (subst (λ (ss : List Seat). NoneDue c.self.inside.first ss) (sym same) c.self.invariant.least)) in
    subst (λ (s : Seating). find seat_due s.seats ≡ None) c.self.view_is
    (find_nobody c.self.inside.seats.items c.next_due-place.result none (omega (arith, c.if-place-len.false, c.len.ensures, c.self.inside.seats.ok.0)))
