use Rattle.std.proofs.Common.{◌∙◌, [], sym, subst, length, drop, get_or, List, ℕ, ◌≤◌, arith}
use Rattle.cohort_map.specs.Seats.{IsWithin}
use Rattle.cohort_map.specs.Listed.{no_seat}
use Rattle.cohort_map.specs.Choice.{chosen_cohorts}
use Rattle.cohort_map.proofs.Due.{chosen_full}
use Rattle.cohort_map.proofs.Choosing.{all_rest, chosen_more, with_bound}
use Rattle.cohort_map.proofs.choice.cohorts_of.Goals as goal

pub returns-then-len-limit-clause-chosen : goal.returns-then-len-limit-clause-chosen
returns-then-len-limit-clause-chosen c =
    chosen_full c.args.keys.now c.args.limit c.args.first c.loop-seat.cohorts (drop c.loop-seat.seat-index c.args.seats.now)
    (omega (arith, c.if-len-limit.true, c.len.ensures))
    ∙ c.loop-seat.invariant.chosen

pub loop-seat-preserved : goal.loop-seat-preserved
loop-seat-preserved c =
    let keys = c.args.keys.now in
    let limit = c.args.limit in
    let first = c.args.first in
    let seats = c.args.seats.now in
    let i = c.loop-seat.seat-index in
    let cs = c.loop-seat.cohorts in
    let s = get_or c.args.seats.now c.loop-seat.seat-index no_seat in
    record {
      bound = subst (λ (ds : List ℕ). length ds ≤ limit) (sym c.in_ok-choose.ensures)
          (with_bound keys limit first cs s c.loop-seat.invariant.bound);
      within = all_rest (IsWithin (length keys)) seats i no_seat c.loop-seat-test.true c.loop-seat.invariant.within;
      chosen = chosen_more keys limit first cs c.choose.new.cohorts seats i no_seat
          (chosen_cohorts keys limit first [] seats) c.loop-seat-test.true (sym c.in_ok-choose.ensures)
          c.loop-seat.invariant.chosen;
    }
