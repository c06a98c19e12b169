use Rattle.std.proofs.Common.{◌≡◌, ◌≤◌, [], length, drop}
use Rattle.std.specs.List.{AllByRecursion}
use Rattle.cohort_map.specs.Seats.{IsWithin}
use Rattle.cohort_map.specs.Choice.{chosen_cohorts}
use Rattle.cohort_map.proofs.choice.cohorts_of.Given as goal

abbrev pub invariant-loop-seat : goal.invariant-loop-seat
invariant-loop-seat l = record {
  bound : length l.cohorts ≤ l.limit;
  within : AllByRecursion (IsWithin (length l.keys)) (drop l.seat-index l.seats);
  chosen : chosen_cohorts l.keys l.limit l.first l.cohorts (drop l.seat-index l.seats)
      ≡ chosen_cohorts l.keys l.limit l.first [] l.seats;
}
