use Rattle.std.proofs.Common.{◌≡◌, map, take}
use Rattle.cohort_map.specs.Seats.{seat_opened, Rise}
use Rattle.cohort_map.specs.Listed.{is_of_job, Lists}
use Rattle.cohort_map.proofs.listed.open.Given as goal

abbrev pub invariant-loop-member : goal.invariant-loop-member
invariant-loop-member l = record {
  rise : Rise l.seats;
  marked : l.seats ≡ map (seat_opened l.job (take l.member-index l.members)) l.fn.seats;
  listed : Lists (is_of_job l.job) l.seats l.list;
}
