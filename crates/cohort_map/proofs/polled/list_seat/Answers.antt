use Rattle.cohort_map.proofs.Polling.{polled_made, polled_pushed}
use Rattle.cohort_map.proofs.polled.list_seat.Goals as goal

pub returns : goal.returns
returns c seats end polled =
    polled_pushed c.args.keys.now seats c.args.seat.now c.get.result.now c.args.place c.make_list.new.pollers
    c.list_place.new.pollers c.get.ensures end c.in_ok-make_list.ensures.there c.list_place.ensures
    (polled_made c.args.keys.now seats c.args.pollers.now c.make_list.new.pollers c.make_list.ensures.made polled)
