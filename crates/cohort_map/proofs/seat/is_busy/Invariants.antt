use Rattle.std.proofs.Common.{◌≡◌, drop}
use Rattle.std.specs.List.{list_any}
use Rattle.cohort_map.specs.Seats.{has_job_in}
use Rattle.cohort_map.proofs.seat.is_busy.Given as goal

abbrev pub invariant-loop-seat : goal.invariant-loop-seat
invariant-loop-seat l = list_any (has_job_in l.cohort) (drop l.seat-index l.seats) ≡ list_any (has_job_in l.cohort) l.seats
