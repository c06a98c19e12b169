use Rattle.std.proofs.Common.{◌∙◌, ℕ, ◌≤◌, ap, sym, subst, map, drop, length, List}
use Rattle.cohort_map.specs.declared.seat.Seat.{Seat}
use Rattle.cohort_map.specs.Seats.{seat_ticked}
use Rattle.cohort_map.specs.Listed.{AreHeld, NoneDue}
use Rattle.cohort_map.proofs.Alls.{whole}
use Rattle.cohort_map.proofs.Listing.{held_over, ticked_keeps, ticked_jobs}
use Rattle.cohort_map.proofs.Due.{none_before_start}
use Rattle.cohort_map.proofs.seats.Seats.tick.Goals as goal

pub invariant_of-self : goal.invariant_of-self
invariant_of-self c =
    let seats = c.self.inside.seats.items in
    let tick = c.tick-count in
    let all = whole c.self.inside.seats.len tick.new.seats (drop (length tick.new.seats) seats) (tick.auto.seats ∙ c.deref_mut.ensures.len) in
    let flags = whole c.self.inside.flags.len tick.new.busy (drop (length tick.new.busy) c.self.inside.flags.items) (tick.auto.busy ∙ c.deref_mut-2.ensures.len) in
    let is = all ∙ tick.ensures.seats ∙ ap (λ (ss : List Seat). map (seat_ticked ss) ss) c.deref_mut.ensures.value in
    let long = ap length flags ∙ tick.ensures.len ∙ ap length c.deref_mut-2.ensures.value in
    record {
      held = subst (λ (ss : List Seat). AreHeld ss c.self.inside.lists.items c.self.inside.jobs c.self.inside.unlisted) (sym is)
          (held_over (seat_ticked seats) seats c.self.inside.lists.items c.self.inside.jobs c.self.inside.unlisted
          (ticked_keeps seats) (ticked_jobs seats) c.self.invariant.held);
      enough = subst (λ (n : ℕ). length c.self.inside.lists.items ≤ n) (sym long) c.self.invariant.enough;
      least = subst (λ (ss : List Seat). NoneDue c.next_due-self-inside.result ss) c.deref.ensures.value
          (c.next_due-self-inside.ensures.none (none_before_start c.deref.result.now));
    }
