use Rattle.std.proofs.Common.{◌≡◌, ◌++◌, map, take, drop}
use Rattle.cohort_map.specs.Seats.{seat_closed}
use Rattle.cohort_map.proofs.seat.close.Given as goal

abbrev pub invariant-loop-place : goal.invariant-loop-place
invariant-loop-place l = l.seats ≡ map (seat_closed l.job l.due) (take l.place l.fn.seats) ++ drop l.place l.fn.seats
