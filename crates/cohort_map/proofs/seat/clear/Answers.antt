use Rattle.std.proofs.Common.{false}
use Rattle.cohort_map.proofs.Alls.{over_at}
use Rattle.cohort_map.proofs.seat.clear.Goals as goal

pub loop-place-preserved : goal.loop-place-preserved
loop-place-preserved c =
    over_at (λ _. false) c.args.flags.now c.loop-place.flags c.loop-place.place false c.loop-place-test.true c.loop-place.auto.flags c.loop-place.invariant
