use Rattle.stream_cursor.proofs.tests.newcomer_in_flight.Goals as goal

pub join-requires-2 : goal.join-requires-2
join-requires-2 c = c.in_ok-_one.ensures 2 (c.tick-one.ensures 2 c.in_ok-join.ensures)

pub returns : goal.returns
returns c = c.tick-due.ensures 3 c.in_ok-join-2.ensures
