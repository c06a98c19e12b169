use Rattle.cohort_map.specs.Polled.{IsSwept}
use Rattle.cohort_map.proofs.Polling.{written, unwritten}
use Rattle.cohort_map.proofs.polled.sweep.Goals as goal

pub returns-in-Some : goal.returns-in-Some
returns-in-Some c =
    written (IsSwept c.args.keys.now c.args.poller.now c.args.seats.now) c.args.poller.now c.args.pollers.now _
    c.in-Some.list.now c.settle.new.list c.in-Some.ensures.value (c.get_mut.follows.holds c.settle.new.list)
    c.settle.ensures

pub returns-in-None : goal.returns-in-None
returns-in-None c =
    unwritten (IsSwept c.args.keys.now c.args.poller.now c.args.seats.now) c.args.poller.now c.args.pollers.now _
    c.in-None.ensures.value c.get_mut.follows.holds-at-none
