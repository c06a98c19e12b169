use Rattle.std.proofs.Common.{sym}
use Rattle.cohort_map.specs.Seats.{seat_marked}
use Rattle.cohort_map.proofs.Rising.{set_at, none_set}
use Rattle.cohort_map.proofs.listed.mark.Goals as goal

pub returns-in-Some-clause-seats : goal.returns-in-Some-clause-seats
returns-in-Some-clause-seats c = set_at c.args.number (seat_marked c.args.job) c.args.seats.now c.in-Some.place c.requires c.in-Some.ensures.some

pub returns-in_default-clause-seats : goal.returns-in_default-clause-seats
returns-in_default-clause-seats c = sym (none_set c.args.number (seat_marked c.args.job) c.args.seats.now c.in_default.ensures.none)
