use Rattle.cohort_map.specs.Listed.{no_seat}
use Rattle.cohort_map.specs.Seats.{member_seen}
use Rattle.cohort_map.proofs.Choosing.{all_seen}
use Rattle.cohort_map.proofs.Due.{seen_step}
use Rattle.cohort_map.proofs.choice.members_of.Goals as goal

pub loop-seat-preserved : goal.loop-seat-preserved
loop-seat-preserved c =
    seen_step (member_seen c.args.cohorts.now) c.loop-seat.members c.push_member.new.members _ c.args.seats.now
    c.loop-seat.seat-index no_seat c.loop-seat-test.true c.in_ok-push_member.ensures c.loop-seat.invariant

pub returns : goal.returns
returns c =
    let see = member_seen c.args.cohorts.now in
    all_seen see c.args.seats.now c.loop-seat.members c.loop-seat.seat-index c.loop-seat-test.false
    c.loop-seat.invariant
