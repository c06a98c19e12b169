use Rattle.std.proofs.Common.{◌≡◌, drop, map}
use Rattle.place_list.specs.Places.{Covers}
use Rattle.cohort_map.specs.Seats.{seat_closed}
use Rattle.cohort_map.specs.Listed.{is_of_job}
use Rattle.cohort_map.proofs.listed.close_at.Given as goal

abbrev pub invariant-loop-place : goal.invariant-loop-place
invariant-loop-place l = record {
  same : map (seat_closed l.job l.due) l.seats ≡ map (seat_closed l.job l.due) l.fn.seats;
  rest : Covers (is_of_job l.job) l.seats (drop l.place-index l.places);
}
