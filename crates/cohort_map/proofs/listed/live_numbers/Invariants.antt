use Rattle.std.proofs.Common.{◌≡◌, ◌++◌, drop}
use Rattle.std.specs.List.{filter_map}
use Rattle.cohort_map.specs.Listed.{live_at}
use Rattle.cohort_map.proofs.listed.live_numbers.Given as goal

abbrev pub invariant-loop-place : goal.invariant-loop-place
invariant-loop-place l =
    l.subs ++ filter_map (live_at l.cohort l.seats) (drop l.place-index l.places)
    ≡ filter_map (live_at l.cohort l.seats) l.places
