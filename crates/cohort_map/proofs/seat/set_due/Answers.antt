use Rattle.std.proofs.Common.{◌∙◌, ap, set}
use Rattle.cohort_map.specs.declared.seat.Seat.{Seat}
use Rattle.cohort_map.specs.Seats.{seat_due_by}
use Rattle.cohort_map.proofs.Alls.{over_at}
use Rattle.cohort_map.proofs.Rising.{no_seat}
use Rattle.cohort_map.proofs.seat.set_due.Goals as goal

pub loop-place-preserved : goal.loop-place-preserved
loop-place-preserved c =
    ap (λ (s : Seat). set c.loop-place.seats c.loop-place.place s) c.due_by.ensures
    ∙ over_at (seat_due_by c.args.busy.now) c.args.seats.now c.loop-place.seats c.loop-place.place no_seat c.loop-place-test.true c.loop-place.auto.seats c.loop-place.invariant
