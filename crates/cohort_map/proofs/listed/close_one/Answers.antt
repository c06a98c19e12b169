use Rattle.std.proofs.Common.{◌∙◌, ap, sym, subst, map, set, get_or}
use Rattle.place_list.specs.Places.{Covers}
use Rattle.cohort_map.specs.declared.seat.Seat.{Seat}
use Rattle.cohort_map.specs.Seats.{seat_closed}
use Rattle.cohort_map.specs.Listed.{is_of_job}
use Rattle.cohort_map.proofs.Listing.{close_same, close_rest, past_rest}
use Rattle.cohort_map.proofs.Rising.{no_seat}
use Rattle.cohort_map.proofs.listed.close_one.Goals as goal

pub returns-then-place-seats-clause-same : goal.returns-then-place-seats-clause-same
returns-then-place-seats-clause-same c =
    ap (λ (s : Seat). map (seat_closed c.args.job c.args.due) (set c.args.seats.now c.args.place s)) c.closed.ensures
    ∙ close_same c.args.job c.args.due c.args.seats.now c.args.place no_seat

pub returns-then-place-seats-clause-rest : goal.returns-then-place-seats-clause-rest
returns-then-place-seats-clause-rest c places covers =
    subst (λ (s : Seat). Covers (is_of_job c.args.job) (set c.args.seats.now c.args.place s) places) (sym c.closed.ensures)
    (close_rest c.args.job c.args.due c.args.seats.now c.args.place (get_or c.args.seats.now c.args.place no_seat) places covers)

pub returns-else-place-seats-clause-rest : goal.returns-else-place-seats-clause-rest
returns-else-place-seats-clause-rest c places covers =
    past_rest c.args.job c.args.seats.now c.args.place places c.if-place-seats.false covers
