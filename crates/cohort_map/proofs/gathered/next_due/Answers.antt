use Rattle.cohort_map.proofs.Due.{none_more}
use Rattle.cohort_map.proofs.gathered.next_due.Goals as goal

pub loop-place-preserved : goal.loop-place-preserved
loop-place-preserved c none =
    none_more c.args.seats.now c.loop-place.place (c.loop-place.invariant none) c.if-seats-place.false
