use Rattle.std.proofs.Common.{◌≡◌, ◌++◌, drop}
use Rattle.std.specs.List.{filter_map}
use Rattle.cohort_map.specs.Listed.{seen_at}
use Rattle.cohort_map.proofs.choice.members_at.Given as goal

abbrev pub invariant-loop-place : goal.invariant-loop-place
invariant-loop-place l =
    l.members ++ filter_map (seen_at l.cohorts l.seats) (drop l.place-index l.places)
    ≡ filter_map (seen_at l.cohorts l.seats) l.places
