use Rattle.std.proofs.Common.{◌≤◌, ◌-◌, length}
use Rattle.cohort_map.specs.Seats.{AreBelow, AreFrom}
use Rattle.cohort_map.proofs.seat.place_from.Given as goal

abbrev pub invariant-loop-low : goal.invariant-loop-low
invariant-loop-low l = record {
  order : l.low ≤ l.high;
  within : l.high ≤ length l.seats;
  below : AreBelow l.number l.seats l.low;
  rest : AreFrom l.number l.seats l.high;
}

abbrev pub decreases-loop-low : goal.decreases-loop-low
decreases-loop-low l = l.high - l.low
