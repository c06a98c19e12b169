use Rattle.std.proofs.Common.{sym}
use Rattle.cohort_map.specs.Seats.{is_at, seat_ended}
use Rattle.cohort_map.proofs.Rising.{set_at, none_set, any_at}
use Rattle.cohort_map.proofs.seat.end.Goals as goal

pub returns-in-Some-clause-seats : goal.returns-in-Some-clause-seats
returns-in-Some-clause-seats c = set_at c.args.number seat_ended c.args.seats.now c.in-Some.place c.requires c.in-Some.ensures.some

pub returns-in-Some-clause-answer : goal.returns-in-Some-clause-answer
returns-in-Some-clause-answer c =
    let has = c.in-Some.ensures.some in
    sym (any_at (is_at c.args.number) c.args.seats.now c.in-Some.place has.seat has.is has.holds)

pub returns-in-None-clause-seats : goal.returns-in-None-clause-seats
returns-in-None-clause-seats c = sym (none_set c.args.number seat_ended c.args.seats.now c.in-None.ensures.none)
