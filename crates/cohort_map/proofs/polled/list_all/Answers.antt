use Rattle.std.proofs.Common.{List, take, length, sym, subst, arith}
use Rattle.std.proofs.lemmas.List.{length-take-le, take_more, take_all}
use Rattle.cohort_map.specs.declared.seat.Seat.{Seat}
use Rattle.cohort_map.specs.Seats.{IsWithin}
use Rattle.cohort_map.specs.Listed.{no_seat}
use Rattle.cohort_map.specs.Polled.{ArePolled}
use Rattle.cohort_map.proofs.Alls.{all_at}
use Rattle.cohort_map.proofs.Polling.{polled_none}
use Rattle.cohort_map.proofs.polled.list_all.Goals as goal

pub loop-place-init : goal.loop-place-init
loop-place-init c = polled_none c.args.keys.now c.new-pollers.result

pub list_seat-requires : goal.list_seat-requires
list_seat-requires c =
    all_at (IsWithin (length c.args.keys.now)) c.args.seats.now c.loop-place.place no_seat c.requires c.loop-place-test.true

pub loop-place-preserved : goal.loop-place-preserved
loop-place-preserved c =
    let seats = c.args.seats.now in
    let i = c.loop-place.place in
    let long = length-take-le i seats (omega (arith, c.loop-place-test.true)) in
    subst (λ (ss : List Seat). ArePolled c.args.keys.now ss c.list_seat.new.pollers)
    (sym (take_more seats i no_seat c.loop-place-test.true))
    (c.in_ok-list_seat.ensures (take i seats) (sym long) c.loop-place.invariant)

pub returns : goal.returns
returns c =
    subst (λ (ss : List Seat). ArePolled c.args.keys.now ss c.loop-place.pollers)
    (take_all c.loop-place.place c.args.seats.now c.loop-place-test.false) c.loop-place.invariant
