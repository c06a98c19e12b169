use Rattle.std.proofs.Common.{◌∙◌, ◌++◌, ◌∷◌, [], List, Some, ap, length, arith}
use Rattle.cohort_map.specs.declared.key.CohortKey.{CohortKey}
use Rattle.cohort_map.specs.declared.seat.Seat.{Seat}
use Rattle.cohort_map.specs.Seats.{IsSound, IsWithin}
use Rattle.cohort_map.proofs.Alls.{all_weaker}
use Rattle.cohort_map.proofs.Rehoming.{got_within}
use Rattle.cohort_map.proofs.compact.copy_seat.Goals as goal

pub make_cohort-requires-clause-count : goal.make_cohort-requires-clause-count
make_cohort-requires-clause-count c = omega (arith, c.len.ensures, c.requires.few)

pub make_cohort-requires-clause-within : goal.make_cohort-requires-clause-within
make_cohort-requires-clause-within c =
    all_weaker (IsSound (length c.args.keys.now)) (IsWithin c.len.result)
    (λ s sound. let within = sound.within in omega (arith, c.len.ensures)) c.args.seats.now.seats c.requires.sound

pub push-requires : goal.push-requires
push-requires c =
    let within = got_within c.place_of.new.self c.in_ok-cohort.cohort _ c.in_ok-cohort.ensures.place in
    omega (arith, c.len.ensures, c.in_ok-make_cohort.ensures.ok, c.in_ok-cohort.ensures.most)

pub returns : goal.returns
returns c = record {
  stay = c.in_ok-cohort.ensures.stay;
  grows = c.in_ok-cohort.ensures.grows;
  few = omega (arith, c.len.ensures, c.in_ok-make_cohort.ensures.ok, c.in_ok-cohort.ensures.most, c.push.ensures.cohorts);
  cohort = c.in_ok-cohort.cohort;
  key = c.get.result.now;
  of = c.get.ensures;
  to = c.in_ok-cohort.ensures.place ∙ ap (λ (k : CohortKey). Some k) c.in_ok-key.ensures;
  pushed = c.in_ok-push.ensures.ok
      ∙ ap (λ (ss : List Seat). ss ++ (record c.args.seat.now { cohort = c.in_ok-cohort.cohort }) ∷ []) c.make_cohort.ensures.seats;
}
