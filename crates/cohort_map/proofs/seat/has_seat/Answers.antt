use Rattle.std.proofs.Common.{sym}
use Rattle.cohort_map.specs.Seats.{is_at}
use Rattle.cohort_map.proofs.Rising.{any_at}
use Rattle.cohort_map.proofs.seat.has_seat.Goals as goal

pub returns-in-Some : goal.returns-in-Some
returns-in-Some c =
    let has = c.in-Some.ensures.some in
    sym (any_at (is_at c.args.number) c.args.seats.now c.in-Some._place has.seat has.is has.holds)
