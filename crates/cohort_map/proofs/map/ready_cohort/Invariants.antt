use Rattle.std.proofs.Common.{drop}
use Rattle.std.specs.List.{Contains}
use Rattle.cohort_map.specs.Seats.{ready_of}
use Rattle.cohort_map.proofs.map.ready_cohort.Given as goal

abbrev pub invariant-loop-seat : goal.invariant-loop-seat
invariant-loop-seat l =
    Contains (ready_of l.keys (drop l.seat-index l.ready)) (record { number = l.sub; cursor = l.cursor })
