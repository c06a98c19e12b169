use Rattle.std.proofs.Common.{◌∙◌, ap}
use Rattle.std.proofs.lemmas.Option.{get_or_from_slice_get}
use Rattle.cohort_map.specs.declared.seat.Seat.{Seat}
use Rattle.cohort_map.proofs.Living.{live_here, live_absent}
use Rattle.cohort_map.proofs.Rising.{no_seat, number_of}
use Rattle.cohort_map.proofs.seat.is_live.Goals as goal

pub returns-in-Some : goal.returns-in-Some
returns-in-Some c =
    let has = c.in-Some.ensures.some in
    ap (λ (s : Seat). s.live) (get_or_from_slice_get c.args.seats.now c.in-Some.place has.seat no_seat has.is)
    ∙ live_here c.args.number c.args.seats.now c.in-Some.place has.seat c.requires has.is (number_of c.args.number has.seat has.holds)

pub returns-in-None : goal.returns-in-None
returns-in-None c = live_absent c.args.number c.args.seats.now c.in-None.ensures.none
