use Rattle.std.proofs.Common.{◌∙◌, ◌+◌, drop, subst}
use Rattle.std.proofs.lemmas.List.{drop_more, drop_all}
use Rattle.place_list.specs.Places.{Covers}
use Rattle.cohort_map.specs.Listed.{is_of_job}
use Rattle.cohort_map.proofs.Listing.{all_closed, none_covered}
use Rattle.cohort_map.proofs.listed.close_at.Goals as goal

pub loop-place-preserved : goal.loop-place-preserved
loop-place-preserved c =
    let i = c.loop-place.place-index in
    let places = c.args.places.now in
    let split = drop_more c.args.places.now c.loop-place.place-index 0 c.loop-place-test.true in
    record {
      same = c.close_one.ensures.same ∙ c.loop-place.invariant.same;
      rest = c.close_one.ensures.rest (drop (i + 1) places)
          (subst (Covers (is_of_job c.args.job) c.loop-place.seats) split c.loop-place.invariant.rest);
    }

pub returns : goal.returns
returns c =
    let none = drop_all c.loop-place.place-index c.args.places.now c.loop-place-test.false in
    all_closed c.args.job c.args.due c.loop-place.seats
    (none_covered c.args.job c.loop-place.seats (drop c.loop-place.place-index c.args.places.now) none c.loop-place.invariant.rest)
    ∙ c.loop-place.invariant.same
