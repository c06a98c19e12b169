use Rattle.std.proofs.Common.{◌∙◌, ap, sym, subst, map, drop, length, List}
use Rattle.cohort_map.specs.declared.seat.Seat.{Seat}
use Rattle.cohort_map.specs.Listed.{AreHeld, NoneDue}
use Rattle.cohort_map.proofs.Alls.{whole}
use Rattle.cohort_map.specs.Seats.{seat_closed}
use Rattle.cohort_map.proofs.Listing.{held_closed, taken_lists}
use Rattle.cohort_map.proofs.Due.{closed_first}
use Rattle.cohort_map.proofs.seats.Seats.close.Goals as goal

pub close_listed-requires : goal.close_listed-requires
close_listed-requires c =
    rw c.deref_mut.ensures.value
    (taken_lists c.self.inside.seats.items c.self.inside.jobs c.args.job c.self.inside.unlisted c.take_list-list.result
    c.self.invariant.held.jobs_listed c.self.invariant.held.known c.take_list-list.ensures.list)

pub invariant_of-self : goal.invariant_of-self
invariant_of-self c =
    let seats = c.self.inside.seats.items in
    let all = whole c.self.inside.seats.len c.close_listed.new.seats (drop (length c.close_listed.new.seats) c.self.inside.seats.items) (c.close_listed.auto.seats ∙ c.deref_mut.ensures.len) in
    let is = all ∙ c.close_listed.ensures ∙ ap (map (seat_closed c.args.job c.args.due)) c.deref_mut.ensures.value in
    record {
      held = subst (λ (ss : List Seat). AreHeld ss c.self.inside.lists.items c.take_list-list.new.jobs (c.self.inside.unlisted)) (sym is)
          (held_closed seats c.args.job c.args.due c.self.inside.lists.items c.self.inside.jobs c.take_list-list.new.jobs c.self.inside.unlisted
          c.take_list-list.ensures.others c.take_list-list.ensures.gone c.self.invariant.held);
      enough = c.self.invariant.enough;
      least = subst (λ (ss : List Seat). NoneDue c.lowered-self-inside.result ss) (sym is) (closed_first seats c.args.job c.args.due c.self.inside.first c.lowered-self-inside.result c.take_list-list.result c.self.invariant.least
          (taken_lists seats c.self.inside.jobs c.args.job c.self.inside.unlisted c.take_list-list.result
          c.self.invariant.held.jobs_listed c.self.invariant.held.known c.take_list-list.ensures.list)
          c.lowered-self-inside.ensures);
    }
