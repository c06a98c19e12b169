use Rattle.std.proofs.Common.{refl, sym}
use Rattle.cohort_map.specs.Seats.{seat_moved}
use Rattle.cohort_map.proofs.Rising.{set_at, none_set}
use Rattle.cohort_map.proofs.Listing.{placed_listed, set_differs}
use Rattle.cohort_map.proofs.listed.move_to.Goals as goal

pub returns-in-Some-clause-seats : goal.returns-in-Some-clause-seats
returns-in-Some-clause-seats c = set_at c.args.number (seat_moved c.args.cohort) c.args.seats.now c.in-Some.place c.requires.rise c.in-Some.ensures.some

pub returns-in-Some-clause-listed : goal.returns-in-Some-clause-listed
returns-in-Some-clause-listed c listed =
    placed_listed c.args.seats.now _ c.args.lists.now c.add_place.new.lists c.in-Some.place c.args.cohort
    (set_differs c.args.seats.now _ c.in-Some.place c.args.cohort refl) listed c.add_place.ensures

pub returns-in-None-clause-seats : goal.returns-in-None-clause-seats
returns-in-None-clause-seats c = sym (none_set c.args.number (seat_moved c.args.cohort) c.args.seats.now c.in-None.ensures.none)
