use Rattle.std.proofs.Common.{◌∙◌, sym, arith}
use Rattle.cohort_map.proofs.Rising.{none_by}
use Rattle.cohort_map.proofs.Steps.{unkept_at, other_at}
use Rattle.cohort_map.proofs.seat.find_seat.Goals as goal
use Rattle.cohort_map.proofs.seat.find_seat.Goals.{else-place-seats-via-then-place-seats+then-seats-place+else-is_kept, else-place-seats-via-then-place-seats+else-seats-place, else-place-seats-via-else-place-seats}

pub returns-else-place-seats-clause-none : goal.returns-else-place-seats-clause-none
returns-else-place-seats-clause-none c =
    let place = c.place_from-place.result in
    none_by c.args.number c.args.seats.now place c.requires c.place_from-place.ensures.below c.place_from-place.ensures.rest
    (λ d inside. elim c.else-place-seats.branch [
      | else-place-seats-via-then-place-seats+then-seats-place+else-is_kept w ↦ unkept_at c.args.number c.args.seats.now place d inside (sym w.is_kept.ensures ∙ w.if-is_kept.false)
      | else-place-seats-via-then-place-seats+else-seats-place w ↦ other_at c.args.number c.args.seats.now place d inside w.if-seats-place.false
      | else-place-seats-via-else-place-seats w ↦ absurd (omega (arith, w.if-place-seats.false))
    ])
