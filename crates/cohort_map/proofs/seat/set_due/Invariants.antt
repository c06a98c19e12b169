use Rattle.std.proofs.Common.{◌≡◌, ◌++◌, map, take, drop}
use Rattle.cohort_map.specs.Seats.{seat_due_by}
use Rattle.cohort_map.proofs.seat.set_due.Given as goal

abbrev pub invariant-loop-place : goal.invariant-loop-place
invariant-loop-place l = l.seats ≡ map (seat_due_by l.busy) (take l.place l.fn.seats) ++ drop l.place l.fn.seats
