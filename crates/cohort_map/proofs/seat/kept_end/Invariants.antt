use Rattle.std.proofs.Common.{◌≤◌, length, drop}
use Rattle.cohort_map.specs.Seats.{AreEmpty}
use Rattle.cohort_map.proofs.seat.kept_end.Given as goal

abbrev pub invariant-loop-end : goal.invariant-loop-end
invariant-loop-end l = record {
  within : l.end ≤ length l.seats;
  empty : AreEmpty (drop l.end l.seats);
}

abbrev pub decreases-loop-end : goal.decreases-loop-end
decreases-loop-end l = l.end
