use Rattle.std.proofs.Common.{◌≡◌, ◌++◌, drop}
use Rattle.std.specs.List.{filter}
use Rattle.cohort_map.specs.Seats.{seat_numbers, is_live_in}
use Rattle.cohort_map.proofs.seat.live_in.Given as goal

abbrev pub invariant-loop-seat : goal.invariant-loop-seat
invariant-loop-seat l = l.subs ++ seat_numbers (filter (is_live_in l.cohort) (drop l.seat-index l.seats)) ≡ seat_numbers (filter (is_live_in l.cohort) l.seats)
