use Rattle.std.proofs.Common.{◌≡◌, ◌≤◌, [], length, drop}
use Rattle.place_list.specs.Places.{read_at}
use Rattle.cohort_map.specs.Choice.{chosen_cohorts}
use Rattle.cohort_map.proofs.choice.cohorts_at.Given as goal

abbrev pub invariant-loop-place : goal.invariant-loop-place
invariant-loop-place l = record {
  bound : length l.cohorts ≤ l.limit;
  chosen : chosen_cohorts l.keys l.limit l.first l.cohorts (read_at l.seats (drop l.place-index l.places))
      ≡ chosen_cohorts l.keys l.limit l.first [] (read_at l.seats l.places);
}
