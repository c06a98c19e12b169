use Rattle.std.proofs.Common.{◌≡◌, ◌∙◌, ap, sym, subst, drop, length, map, List, Bool}
use Rattle.cohort_map.specs.declared.seat.Seat.{Seat}
use Rattle.cohort_map.specs.Seats.{seat_opened}
use Rattle.cohort_map.specs.Listed.{is_of_job, Lists, AreHeld, NoneDue}
use Rattle.cohort_map.proofs.Alls.{whole}
use Rattle.cohort_map.proofs.Listing.{held_opened, taken_lists, IsPut}
use Rattle.cohort_map.proofs.Due.{none_over, opened_due}
use Rattle.cohort_map.proofs.seats.Seats.open.Goals as goal

pub open-requires-clause-listed : goal.open-requires-clause-listed
open-requires-clause-listed c =
    rw c.deref_mut.ensures.value
    (taken_lists c.self.inside.seats.items c.self.inside.jobs c.args.job c.self.inside.unlisted c.take_list-list.result
    c.self.invariant.held.jobs_listed c.self.invariant.held.known c.take_list-list.ensures.list)

pub invariant_of-self : goal.invariant_of-self
invariant_of-self c =
    let before = c.self.inside.seats.items in
    let all = whole c.self.inside.seats.len c.open.new.seats (drop (length c.open.new.seats) c.self.inside.seats.items) (c.open.auto.seats ∙ c.deref_mut.ensures.len) in
    let seats : c.open.new.seats ≡ map (seat_opened c.args.job c.args.members.now) before =
    c.open.ensures.seats ∙ ap (map (seat_opened c.args.job c.args.members.now)) c.deref_mut.ensures.value in
    let put : IsPut c.args.job c.put_list-put.result c.open.new.list c.self.inside.jobs c.put_list-put.new.jobs = record {
      others = λ k apart. c.put_list-put.ensures.others k apart ∙ c.take_list-list.ensures.others k apart;
      there = c.put_list-put.ensures.there;
      absent = c.put_list-put.ensures.absent;
    } in
    let listed : Lists (is_of_job c.args.job) (map (seat_opened c.args.job c.args.members.now) before) c.open.new.list =
    subst (λ (ss : List Seat). Lists (is_of_job c.args.job) ss c.open.new.list) seats c.open.ensures.listed in
    let opened = held_opened before c.args.members.now c.args.job c.put_list-put.result c.open.new.list c.self.inside.lists.items
    c.self.inside.jobs c.put_list-put.new.jobs c.self.inside.unlisted put listed c.self.invariant.held in
    record {
      held = subst (λ (ss : List Seat). AreHeld ss c.self.inside.lists.items c.put_list-put.new.jobs c.lacks-self-inside.result)
          (sym (all ∙ seats))
          (subst (λ (u : Bool). AreHeld (map (seat_opened c.args.job c.args.members.now) before) c.self.inside.lists.items c.put_list-put.new.jobs u)
          (sym c.lacks-self-inside.ensures) opened);
      enough = c.self.invariant.enough;
      least = subst (λ (ss : List Seat). NoneDue c.next_due-self-inside.result ss) c.deref.ensures.value
          (c.next_due-self-inside.ensures.none (subst (λ (ss : List Seat). NoneDue c.self.inside.first ss) (sym (c.deref.ensures.value ∙ all ∙ seats))
          (none_over (seat_opened c.args.job c.args.members.now) c.self.inside.first before (opened_due c.args.job c.args.members.now) c.self.invariant.least)));
    }
