use Rattle.std.proofs.Common.{◌≡◌, ◌∙◌, ◌++◌, ℕ, ◌≤◌, ap, sym, subst, map, take, drop, length, List}
use Rattle.cohort_map.specs.declared.seat.Seat.{Seat}
use Rattle.place_list.specs.Places.{Places}
use Rattle.cohort_map.specs.Seats.{at, seat_moved}
use Rattle.cohort_map.specs.Listed.{AreListed, AreHeld, NoneDue}
use Rattle.cohort_map.proofs.Alls.{whole}
use Rattle.cohort_map.proofs.Listing.{held_moved}
use Rattle.cohort_map.proofs.Due.{none_over, moved_due}
use Rattle.cohort_map.proofs.seats.Seats.move_to.Goals as goal

pub invariant_of-self : goal.invariant_of-self
invariant_of-self c =
    let seats = c.self.inside.seats.items in
    let lists = c.self.inside.lists.items in
    let all = whole c.self.inside.seats.len c.move_to-before.new.seats (drop (length c.move_to-before.new.seats) seats) (c.move_to-before.auto.seats ∙ c.deref_mut.ensures.len) in
    let whole_lists = whole c.self.inside.lists.len c.move_to-before.new.lists (drop (length c.move_to-before.new.lists) lists) (c.move_to-before.auto.lists ∙ c.deref_mut-2.ensures.len) in
    let moved : c.move_to-before.new.seats ≡ map (at c.args.number (seat_moved c.args.cohort)) seats =
    c.move_to-before.ensures.seats ∙ ap (map (at c.args.number (seat_moved c.args.cohort))) c.deref_mut.ensures.value in
    let listed : AreListed seats lists → AreListed (map (at c.args.number (seat_moved c.args.cohort)) seats) c.move_to-before.new.lists =
    λ before. subst (λ (ss : List Seat). AreListed ss c.move_to-before.new.lists) moved (c.move_to-before.ensures.listed
    (subst (λ (ss : List Seat). AreListed ss c.deref_mut-2.result.now) (sym c.deref_mut.ensures.value)
    (subst (λ (ls : List Places). AreListed seats ls) (sym c.deref_mut-2.ensures.value) before))) in
    let long = c.move_to-before.ensures.long ∙ ap length c.deref_mut-2.ensures.value in
    let after = held_moved seats c.args.number c.args.cohort lists c.move_to-before.new.lists
    c.self.inside.jobs c.self.inside.unlisted listed c.self.invariant.held in
    record {
      held = subst (λ (ss : List Seat). AreHeld ss (take c.self.inside.lists.len (c.move_to-before.new.lists ++ drop (length c.move_to-before.new.lists) lists)) c.self.inside.jobs c.self.inside.unlisted) (sym (all ∙ moved))
          (subst (λ (ls : List Places). AreHeld (map (at c.args.number (seat_moved c.args.cohort)) seats) ls c.self.inside.jobs c.self.inside.unlisted) (sym whole_lists) after);
      enough = subst (λ (n : ℕ). n ≤ length c.self.inside.flags.items) (sym (ap length whole_lists ∙ long)) c.self.invariant.enough;
      least = subst (λ (ss : List Seat). NoneDue c.self.inside.first ss) (sym (all ∙ moved))
          (none_over (at c.args.number (seat_moved c.args.cohort)) c.self.inside.first seats (moved_due c.args.number c.args.cohort) c.self.invariant.least);
    }

pub invariant_of-self-in_default : goal.invariant_of-self-in_default
invariant_of-self-in_default c =
    let seats = c.self.inside.seats.items in
    let lists = c.self.inside.lists.items in
    let all = whole c.self.inside.seats.len c.move_to-before.new.seats (drop (length c.move_to-before.new.seats) seats) (c.move_to-before.auto.seats ∙ c.deref_mut.ensures.len) in
    let whole_lists = whole c.self.inside.lists.len c.move_to-before.new.lists (drop (length c.move_to-before.new.lists) lists) (c.move_to-before.auto.lists ∙ c.deref_mut-2.ensures.len) in
    let moved : c.move_to-before.new.seats ≡ map (at c.args.number (seat_moved c.args.cohort)) seats =
    c.move_to-before.ensures.seats ∙ ap (map (at c.args.number (seat_moved c.args.cohort))) c.deref_mut.ensures.value in
    let listed : AreListed seats lists → AreListed (map (at c.args.number (seat_moved c.args.cohort)) seats) c.move_to-before.new.lists =
    λ before. subst (λ (ss : List Seat). AreListed ss c.move_to-before.new.lists) moved (c.move_to-before.ensures.listed
    (subst (λ (ss : List Seat). AreListed ss c.deref_mut-2.result.now) (sym c.deref_mut.ensures.value)
    (subst (λ (ls : List Places). AreListed seats ls) (sym c.deref_mut-2.ensures.value) before))) in
    let long = c.move_to-before.ensures.long ∙ ap length c.deref_mut-2.ensures.value in
    let after = held_moved seats c.args.number c.args.cohort lists c.move_to-before.new.lists
    c.self.inside.jobs c.self.inside.unlisted listed c.self.invariant.held in
    record {
      held = subst (λ (ss : List Seat). AreHeld ss (take c.self.inside.lists.len (c.move_to-before.new.lists ++ drop (length c.move_to-before.new.lists) lists)) c.self.inside.jobs c.self.inside.unlisted) (sym (all ∙ moved))
          (subst (λ (ls : List Places). AreHeld (map (at c.args.number (seat_moved c.args.cohort)) seats) ls c.self.inside.jobs c.self.inside.unlisted) (sym whole_lists) after);
      enough = subst (λ (n : ℕ). n ≤ length c.self.inside.flags.items) (sym (ap length whole_lists ∙ long)) c.self.invariant.enough;
      least = subst (λ (ss : List Seat). NoneDue c.self.inside.first ss) (sym (all ∙ moved))
          (none_over (at c.args.number (seat_moved c.args.cohort)) c.self.inside.first seats (moved_due c.args.number c.args.cohort) c.self.invariant.least);
    }
