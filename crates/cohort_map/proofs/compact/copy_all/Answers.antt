use Rattle.std.proofs.Common.{List, take, length, sym, subst}
use Rattle.std.proofs.lemmas.List.{take_more, take_all}
use Rattle.cohort_map.specs.declared.seat.Seat.{Seat}
use Rattle.cohort_map.specs.Seats.{IsSound}
use Rattle.cohort_map.specs.Listed.{no_seat}
use Rattle.cohort_map.specs.Copies.{Copies}
use Rattle.cohort_map.proofs.Alls.{all_at}
use Rattle.cohort_map.proofs.Copying.{copies_none, below_at}
use Rattle.cohort_map.proofs.compact.copy_all.Goals as goal

pub loop-seat-init : goal.loop-seat-init
loop-seat-init c = copies_none c.args.from.now c.args.keys.now c.args.seats.now c.requires.no_keys c.requires.no_seats

pub copy_kept-requires-clause-sound_seat : goal.copy_kept-requires-clause-sound_seat
copy_kept-requires-clause-sound_seat c =
    all_at (IsSound (length c.args.from.now)) c.args.all.now c.loop-seat.seat-index no_seat c.requires.sound c.loop-seat-test.true

pub copy_kept-requires-clause-few : goal.copy_kept-requires-clause-few
copy_kept-requires-clause-few c = c.loop-seat.invariant.few

pub copy_kept-requires-clause-sound : goal.copy_kept-requires-clause-sound
copy_kept-requires-clause-sound c = c.loop-seat.invariant.sound

pub loop-seat-preserved : goal.loop-seat-preserved
loop-seat-preserved c =
    let i = c.loop-seat.seat-index in
    subst (λ (ss : List Seat). Copies c.args.from.now ss c.copy_kept.new.keys c.copy_kept.new.seats)
    (sym (take_more c.args.all.now i no_seat c.loop-seat-test.true))
    (c.in_ok-copy_kept.ensures (take i c.args.all.now) (below_at c.args.all.now i no_seat c.loop-seat-test.true c.requires.rise)
    c.loop-seat.invariant)

pub returns : goal.returns
returns c =
    subst (λ (ss : List Seat). Copies c.args.from.now ss c.loop-seat.keys c.loop-seat.seats)
    (take_all c.loop-seat.seat-index c.args.all.now c.loop-seat-test.false) c.loop-seat.invariant
