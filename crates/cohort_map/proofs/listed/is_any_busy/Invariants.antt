use Rattle.std.proofs.Common.{◌≡◌, drop}
use Rattle.std.specs.List.{list_any}
use Rattle.cohort_map.specs.Listed.{busy_at}
use Rattle.cohort_map.proofs.listed.is_any_busy.Given as goal

abbrev pub invariant-loop-place : goal.invariant-loop-place
invariant-loop-place l =
    list_any (busy_at l.cohort l.seats) (drop l.place-index l.places) ≡ list_any (busy_at l.cohort l.seats) l.places
