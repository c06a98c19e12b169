use Rattle.std.proofs.Common.{◌∙◌, length, arith}
use Rattle.cohort_map.specs.Seats.{is_cohort_busy}
use Rattle.cohort_map.proofs.Steps.{due_same, cleared_or}
use Rattle.cohort_map.proofs.seat.tick.Goals as goal

pub returns-clause-seats : goal.returns-clause-seats
returns-clause-seats c =
    c.set_due.ensures
    ∙ due_same c.note_busy.new.busy c.args.seats.now c.args.seats.now (length c.args.busy.now)
    (λ k within. c.note_busy.ensures.noted k (omega arith) ∙ cleared_or c.clear.new.flags c.args.busy.now k (is_cohort_busy c.args.seats.now k) c.clear.ensures) c.requires
