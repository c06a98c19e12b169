use Rattle.std.proofs.Common.{◌∙◌, ◌≤◌, sym, subst, drop, length, arith, List}
use Rattle.place_list.specs.Places.{Places}
use Rattle.cohort_map.specs.Listed.{AreHeld, IsSettled, IsChanged}
use Rattle.cohort_map.proofs.Alls.{whole}
use Rattle.cohort_map.proofs.Listing.{held_swept}
use Rattle.cohort_map.proofs.seats.Seats.note_stale.Goals as goal

pub invariant_of-self : goal.invariant_of-self
invariant_of-self c =
    let seats = c.self.inside.seats.items in
    let lists = c.self.inside.lists.items in
    let all = whole c.self.inside.lists.len c.sweep.new.lists (drop (length c.sweep.new.lists) lists) (c.sweep.auto.lists ∙ c.deref_mut.ensures.len) in
    let changed : IsChanged (IsSettled c.args.cohort seats) c.args.cohort lists c.sweep.new.lists =
    rw (← c.deref_mut.ensures.value, ← c.deref.ensures.value) c.sweep.ensures in
    record {
      held = subst (λ (ls : List Places). AreHeld seats ls c.self.inside.jobs c.self.inside.unlisted) (sym all)
          (held_swept seats c.args.cohort lists c.sweep.new.lists c.self.inside.jobs c.self.inside.unlisted changed c.self.invariant.held);
      enough = subst (λ (ls : List Places). length ls ≤ length c.self.inside.flags.items) (sym all)
          (let long = changed.long in let few = c.self.invariant.enough in omega arith);
      least = c.self.invariant.least;
    }
