use Rattle.std.proofs.Common.{◌∙◌, ◌≤◌, refl, sym, subst, drop, length, arith, List}
use Rattle.cohort_map.specs.declared.seat.Seat.{Seat}
use Rattle.place_list.specs.Places.{Places}
use Rattle.cohort_map.specs.Listed.{AreHeld, IsAdded, IsChanged, NoneDue}
use Rattle.cohort_map.proofs.Alls.{whole}
use Rattle.cohort_map.proofs.Copying.{added_first}
use Rattle.cohort_map.proofs.Listing.{held_added}
use Rattle.cohort_map.proofs.seats.Seats.push.Goals as goal

pub invariant_of-self-2 : goal.invariant_of-self-2
invariant_of-self-2 c =
    let seats = c.self.inside.seats.items in
    let lists = c.self.inside.lists.items in
    let end = c.len-place.ensures ∙ c.self.inside.seats.ok.0 in
    let member = c.list_member-self-inside in
    let all = whole c.self.inside.lists.len c.add_place.new.lists (drop (length c.add_place.new.lists) lists) (c.add_place.auto.lists ∙ c.deref_mut.ensures.len) in
    let changed : IsChanged (IsAdded c.len-place.result) c.args.seat.cohort lists c.add_place.new.lists =
    rw (← c.deref_mut.ensures.value) c.add_place.ensures in
    let more = held_added seats c.args.seat c.len-place.result lists c.add_place.new.lists
    c.self.inside.jobs member.new.jobs c.self.inside.unlisted member.result end changed
    (member.ensures.listed seats c.args.seat refl end c.self.invariant.held.jobs_listed c.self.invariant.held.known)
    (member.ensures.known seats c.args.seat refl end c.self.invariant.held.known)
    c.self.invariant.held in
    record {
      held = subst (λ (ls : List Places). AreHeld c.push.new.self.items ls member.new.jobs member.result) (sym all)
          (subst (λ (ss : List Seat). AreHeld ss c.add_place.new.lists member.new.jobs member.result) (sym c.in_ok-push.ensures.items) more);
      enough = subst (λ (ls : List Places). length ls ≤ length c.self.inside.flags.items) (sym all)
          (let long = changed.long in let few = c.self.invariant.enough in omega arith);
      least = subst (λ (ss : List Seat). NoneDue c.start_of-self-inside.result ss) (sym c.in_ok-push.ensures.items)
          (added_first seats c.args.seat c.self.inside.first c.start_of-self-inside.result c.start_of-self-inside.ensures.due
          c.start_of-self-inside.ensures.rests c.self.invariant.least);
    }
