use Rattle.std.proofs.Common.{◌∙◌, ap, sym, subst, map, drop, length, List}
use Rattle.cohort_map.specs.declared.seat.Seat.{Seat}
use Rattle.cohort_map.specs.Listed.{AreHeld, NoneDue}
use Rattle.cohort_map.proofs.Alls.{whole}
use Rattle.cohort_map.specs.Seats.{at, seat_ended}
use Rattle.cohort_map.proofs.Listing.{held_over, ended_keeps, ended_jobs}
use Rattle.cohort_map.proofs.Due.{none_over, ended_due}
use Rattle.cohort_map.proofs.seats.Seats.end.Goals as goal

pub invariant_of-self : goal.invariant_of-self
invariant_of-self c =
    let seats = c.self.inside.seats.items in
    let all = whole c.self.inside.seats.len c.end-ended.new.seats (drop (length c.end-ended.new.seats) c.self.inside.seats.items) (c.end-ended.auto.seats ∙ c.deref_mut.ensures.len) in
    let is = all ∙ c.end-ended.ensures.seats ∙ ap (map (at c.args.number seat_ended)) c.deref_mut.ensures.value in
    record {
      held = subst (λ (ss : List Seat). AreHeld ss c.self.inside.lists.items c.self.inside.jobs (c.self.inside.unlisted)) (sym is)
          (held_over (at c.args.number seat_ended) seats c.self.inside.lists.items c.self.inside.jobs c.self.inside.unlisted (ended_keeps c.args.number) (ended_jobs c.args.number) c.self.invariant.held);
      enough = c.self.invariant.enough;
      least = subst (λ (ss : List Seat). NoneDue c.self.inside.first ss) (sym is) (none_over (at c.args.number seat_ended) c.self.inside.first seats (ended_due c.args.number) c.self.invariant.least);
    }

pub invariant_of-self-in_default : goal.invariant_of-self-in_default
invariant_of-self-in_default c =
    let seats = c.self.inside.seats.items in
    let all = whole c.self.inside.seats.len c.end-ended.new.seats (drop (length c.end-ended.new.seats) c.self.inside.seats.items) (c.end-ended.auto.seats ∙ c.deref_mut.ensures.len) in
    let is = all ∙ c.end-ended.ensures.seats ∙ ap (map (at c.args.number seat_ended)) c.deref_mut.ensures.value in
    record {
      held = subst (λ (ss : List Seat). AreHeld ss c.self.inside.lists.items c.self.inside.jobs (c.self.inside.unlisted)) (sym is)
          (held_over (at c.args.number seat_ended) seats c.self.inside.lists.items c.self.inside.jobs c.self.inside.unlisted (ended_keeps c.args.number) (ended_jobs c.args.number) c.self.invariant.held);
      enough = c.self.invariant.enough;
      least = subst (λ (ss : List Seat). NoneDue c.self.inside.first ss) (sym is) (none_over (at c.args.number seat_ended) c.self.inside.first seats (ended_due c.args.number) c.self.invariant.least);
    }
