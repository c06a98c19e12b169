use Rattle.std.proofs.Common.{◌≡◌, ◌++◌, drop}
use Rattle.std.specs.List.{filter_map}
use Rattle.cohort_map.specs.Seats.{member_seen}
use Rattle.cohort_map.proofs.choice.members_of.Given as goal

abbrev pub invariant-loop-seat : goal.invariant-loop-seat
invariant-loop-seat l =
    l.members ++ filter_map (member_seen l.cohorts) (drop l.seat-index l.seats)
    ≡ filter_map (member_seen l.cohorts) l.seats
