use Rattle.cohort_map.specs.Seats.{is_at}
use Rattle.cohort_map.proofs.Finding.{cohort_is, find_none}
use Rattle.cohort_map.proofs.seat.cohort_of.Goals as goal

pub returns-in-Some-clause-some : goal.returns-in-Some-clause-some
returns-in-Some-clause-some c = cohort_is c.args.number c.args.seats.now c.in-Some.place c.requires c.in-Some.ensures.some

pub returns-in-None-clause-none : goal.returns-in-None-clause-none
returns-in-None-clause-none c = find_none (is_at c.args.number) c.args.seats.now c.in-None.ensures.none
