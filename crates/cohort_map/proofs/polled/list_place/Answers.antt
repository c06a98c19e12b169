use Rattle.cohort_map.specs.Listed.{IsAdded}
use Rattle.cohort_map.proofs.Polling.{written, unwritten}
use Rattle.cohort_map.proofs.polled.list_place.Goals as goal

pub returns-in-Some : goal.returns-in-Some
returns-in-Some c =
    written (IsAdded c.args.place) c.args.poller.now c.args.pollers.now _ c.in-Some.list.now c.add.new.self
    c.in-Some.ensures.value (c.get_mut.follows.holds c.add.new.self)
    (record { keeps = c.add.ensures.keeps; added = c.add.ensures.added; complete = c.add.ensures.complete })

pub returns-in-None : goal.returns-in-None
returns-in-None c =
    unwritten (IsAdded c.args.place) c.args.poller.now c.args.pollers.now _ c.in-None.ensures.value
    c.get_mut.follows.holds-at-none
