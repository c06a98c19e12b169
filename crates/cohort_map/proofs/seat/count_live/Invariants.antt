use Rattle.std.proofs.Common.{◌≡◌, ◌≤◌, length, take}
use Rattle.std.specs.List.{filter}
use Rattle.cohort_map.specs.Seats.{seat_live}
use Rattle.cohort_map.proofs.seat.count_live.Given as goal

abbrev pub invariant-loop-seat : goal.invariant-loop-seat
invariant-loop-seat l = record {
  counted : l.count ≡ length (filter seat_live (take l.seat-index l.seats));
  bound : l.count ≤ l.seat-index;
}
