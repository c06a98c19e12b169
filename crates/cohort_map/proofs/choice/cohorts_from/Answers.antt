use Rattle.std.proofs.Common.{◌≡◌, ◌<◌, ℕ, List, refl, sym, subst, length, IfOk}
use Rattle.std.specs.List.{AllByRecursion}
use Rattle.std.proofs.lemmas.List.{take_rest}
use Rattle.cohort_map.specs.Seats.{IsWithin}
use Rattle.cohort_map.proofs.Alls.{all_drop}
use Rattle.cohort_map.proofs.Listing.{item_within}
use Rattle.cohort_map.proofs.Views.{within_of}
use Rattle.cohort_map.proofs.Due.{chosen_from, chosen_listed, first_cohort}
use Rattle.cohort_map.proofs.choice.cohorts_from.Goals as goal

pub bounds-seats-place : goal.bounds-seats-place
bounds-seats-place c = item_within c.args.seats.now c.args.place c.requires.first.seat c.requires.first.at

pub get-requires : goal.get-requires
get-requires c =
    first_cohort (λ d. d < length c.args.keys.now) c.args.seats.now c.args.place c.requires.first
    (within_of (length c.args.keys.now) c.args.seats.now c.requires.sound)

pub cohorts_at-requires-clause-first : goal.cohorts_at-requires-clause-first
cohorts_at-requires-clause-first c =
    first_cohort (λ d. d < length c.args.keys.now) c.args.seats.now c.args.place c.requires.first
    (within_of (length c.args.keys.now) c.args.seats.now c.requires.sound)

pub cohorts_at-requires-clause-within : goal.cohorts_at-requires-clause-within
cohorts_at-requires-clause-within c = within_of (length c.args.keys.now) c.args.seats.now c.requires.sound

pub cohorts_of-requires-clause-first : goal.cohorts_of-requires-clause-first
cohorts_of-requires-clause-first c =
    first_cohort (λ d. d < length c.args.keys.now) c.args.seats.now c.args.place c.requires.first
    (within_of (length c.args.keys.now) c.args.seats.now c.requires.sound)

pub cohorts_of-requires-clause-within : goal.cohorts_of-requires-clause-within
cohorts_of-requires-clause-within c =
    subst (AllByRecursion (IsWithin (length c.args.keys.now))) (sym (take_rest c.args.seats.now c.args.place))
    (all_drop (IsWithin (length c.args.keys.now)) c.args.place c.args.seats.now
    (within_of (length c.args.keys.now) c.args.seats.now c.requires.sound))

pub returns-in-Some-clause-chosen : goal.returns-in-Some-clause-chosen
returns-in-Some-clause-chosen c =
    subst (λ (cs : List ℕ). IfOk c.cohorts_at.result (λ cohorts. cohorts ≡ cs))
    (chosen_listed c.args.keys.now c.args.limit _ c.get.result.now c.args.seats.now c.args.place c.in-Some.places.now
    c.requires.first refl c.get.ensures c.requires.sound
    (c.in-Some.ensures c.args.keys.now c.args.seats.now c.requires.polled)) c.cohorts_at.ensures.chosen

pub returns-in-None-clause-chosen : goal.returns-in-None-clause-chosen
returns-in-None-clause-chosen c =
    subst (λ (cs : List ℕ). IfOk c.cohorts_of.result (λ cohorts. cohorts ≡ cs))
    (chosen_from c.args.keys.now c.args.limit _ c.args.seats.now c.args.place c.requires.first refl) c.cohorts_of.ensures.chosen
