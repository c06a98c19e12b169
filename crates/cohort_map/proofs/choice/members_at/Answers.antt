use Rattle.cohort_map.specs.Listed.{seen_at}
use Rattle.cohort_map.proofs.Choosing.{all_seen}
use Rattle.cohort_map.proofs.Due.{seen_step}
use Rattle.cohort_map.proofs.choice.members_at.Goals as goal

pub loop-place-preserved : goal.loop-place-preserved
loop-place-preserved c =
    seen_step (seen_at c.args.cohorts.now c.args.seats.now) c.loop-place.members c.push_at.new.members _ c.args.places.now
    c.loop-place.place-index 0 c.loop-place-test.true c.in_ok-push_at.ensures c.loop-place.invariant

pub returns : goal.returns
returns c =
    all_seen (seen_at c.args.cohorts.now c.args.seats.now) c.args.places.now c.loop-place.members c.loop-place.place-index
    c.loop-place-test.false c.loop-place.invariant
