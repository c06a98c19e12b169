use Rattle.std.proofs.Common.{◌∙◌, [], sym, subst, length, drop, get_or, List, ℕ, ◌≤◌, arith}
use Rattle.std.specs.List.{slice_get}
use Rattle.place_list.specs.Places.{read_at}
use Rattle.cohort_map.specs.Choice.{chosen_cohorts}
use Rattle.cohort_map.proofs.Due.{chosen_full}
use Rattle.cohort_map.proofs.Choosing.{option_bound, read_step}
use Rattle.cohort_map.proofs.choice.cohorts_at.Goals as goal

pub returns-then-len-limit-clause-chosen : goal.returns-then-len-limit-clause-chosen
returns-then-len-limit-clause-chosen c =
    chosen_full c.args.keys.now c.args.limit c.args.first c.loop-place.cohorts
    (read_at c.args.seats.now (drop c.loop-place.place-index c.args.places.now))
    (omega (arith, c.if-len-limit.true, c.len.ensures))
    ∙ c.loop-place.invariant.chosen

pub loop-place-preserved : goal.loop-place-preserved
loop-place-preserved c =
    let keys = c.args.keys.now in
    let limit = c.args.limit in
    let first = c.args.first in
    let seats = c.args.seats.now in
    let places = c.args.places.now in
    let i = c.loop-place.place-index in
    let cs = c.loop-place.cohorts in
    record {
      bound = subst (λ (ds : List ℕ). length ds ≤ limit) (sym c.in_ok-choose_at.ensures)
          (option_bound keys limit first cs (slice_get seats (get_or places i 0)) c.loop-place.invariant.bound);
      chosen = read_step keys limit first cs c.choose_at.new.cohorts seats places i 0
          (chosen_cohorts keys limit first [] (read_at seats places)) c.loop-place-test.true c.in_ok-choose_at.ensures
          c.loop-place.invariant.chosen;
    }
