use Rattle.std.proofs.Common.{get_or, length}
use Rattle.cohort_map.specs.Seats.{IsReadyWithin}
use Rattle.cohort_map.proofs.Alls.{all_at, read_same}
use Rattle.cohort_map.proofs.Rehoming.{no_ready, other_by, pair_later, reached_by}
use Rattle.cohort_map.proofs.map.ready_cohort.Goals as goal

pub returns-then-is_ready_to : goal.returns-then-is_ready_to
returns-then-is_ready_to c =
    let within = all_at (IsReadyWithin (length c.args.keys.now)) c.args.ready.now c.loop-seat.seat-index no_ready c.requires.within c.loop-seat-test.true in
    reached_by c.args.keys.now c.args.ready.now c.args.sub c.args.cursor.now c.loop-seat.seat-index c.is_ready_to.result
    c.loop-seat-test.true within c.if-is_ready_to.true c.is_ready_to.ensures

pub loop-seat-preserved : goal.loop-seat-preserved
loop-seat-preserved c =
    let within = all_at (IsReadyWithin (length c.args.keys.now)) c.args.ready.now c.loop-seat.seat-index no_ready c.requires.within c.loop-seat-test.true in
    let seat = get_or c.args.ready.now c.loop-seat.seat-index no_ready in
    pair_later c.args.keys.now c.args.ready.now c.loop-seat.seat-index c.args.sub c.args.cursor.now
    seat c.loop-seat-test.true (read_same c.args.ready.now c.loop-seat.seat-index no_ready _ c.loop-seat-test.true) within
    (other_by c.args.keys.now c.args.sub c.args.cursor.now seat c.is_ready_to.result within c.if-is_ready_to.false c.is_ready_to.ensures)
    c.loop-seat.invariant
