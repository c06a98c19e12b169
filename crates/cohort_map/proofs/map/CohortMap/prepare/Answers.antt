use Rattle.std.proofs.Common.{◌≡◌, ◌∙◌, ap, sym, subst, true, length, arith, Some}
use Rattle.std.proofs.lemmas.Bool.{false≢true}
use Rattle.cohort_map.specs.declared.key.CohortKey.{CohortKey}
use Rattle.cohort_map.specs.Entries.{Held, has_stream, is_entry, is_stream}
use Rattle.cohort_map.specs.Seats.{IsCohortOf, IsSound, IsWithin, entries_of, ready_of}
use Rattle.cohort_map.proofs.Alls.{all_weaker}
use Rattle.cohort_map.proofs.Views.{within_of}
use Rattle.cohort_map.proofs.Finding.{cohort_within, entry_none}
use Rattle.cohort_map.proofs.Seated.{more_seen, more_seated}
use Rattle.cohort_map.proofs.Entering.{on_err, kept_ready, none_any, paired_seated, paired_seen}
use Rattle.cohort_map.proofs.Polling.{polled_more}
use Rattle.cohort_map.proofs.map.CohortMap.prepare.Goals as goal

pub make_cohort-requires-clause-count : goal.make_cohort-requires-clause-count
make_cohort-requires-clause-count c = let few = c.self.invariant.1 in omega (arith, c.len.ensures)

pub make_cohort-requires-clause-within : goal.make_cohort-requires-clause-within
make_cohort-requires-clause-within c =
    all_weaker (IsSound (length c.self.inside.keys)) (IsWithin c.len.result)
    (λ s sound. let within = sound.within in omega (arith, c.len.ensures)) c.self.inside.seats.seats c.self.invariant.0.sound

pub get-before-requires : goal.get-before-requires
get-before-requires c =
    let keys = c.self.inside.keys in
    let seats = c.self.inside.seats.seats in
    cohort_within keys c.args.sub seats c.in-Some.cohort (within_of (length keys) seats c.self.invariant.0.sound)
    (rw (← c.make_cohort.ensures.seats, ← c.as_slice.ensures) c.in-Some.ensures.some)

pub unreachable-requires : goal.unreachable-requires
unreachable-requires c =
    let keys = c.self.inside.keys in
    let seats = c.self.inside.seats.seats in
    let none = entry_none keys c.args.sub seats (within_of (length keys) seats c.self.invariant.0.sound)
    (rw (← c.make_cohort.ensures.seats, ← c.as_slice.ensures) c.in-None.ensures.none) in
    let no = none_any (is_entry c.args.sub) is_stream (entries_of keys seats) none in
    let yes = subst (λ (h : Held). has_stream c.args.sub h.entries ≡ true) (sym c.self.view_is) c.requires in
    false≢true (sym no ∙ yes)

pub invariant_of-self-in_err-push : goal.invariant_of-self-in_err-push
invariant_of-self-in_err-push c =
    let more = c.place_of.new.self in
    let seats = c.self.inside.seats.seats in
    let kept = more_seated c.self.inside.keys more seats c.self.inside.ready.items c.in_ok-cohort.ensures.stay
    c.in_ok-cohort.ensures.grows c.self.invariant.0 in (
      rw (c.make_cohort.ensures.seats, c.in_err-push.ensures.items) kept,
      omega (arith, c.len.ensures, c.in_ok-make_cohort.ensures.ok, c.in_ok-cohort.ensures.most),
      rw c.make_cohort.ensures.seats (polled_more c.self.inside.keys more seats c.self.inside.pollers
          c.in_ok-cohort.ensures.stay c.self.invariant.0.sound c.self.invariant.2),
    )

pub returns-in_err-push-clause-entries : goal.returns-in_err-push-clause-entries
returns-in_err-push-clause-entries c =
    ap (entries_of c.place_of.new.self) c.make_cohort.ensures.seats
    ∙ more_seen c.self.inside.keys c.place_of.new.self c.self.inside.seats.seats c.in_ok-cohort.ensures.stay
    c.self.invariant.0.sound
    ∙ ap (λ (h : Held). h.entries) c.self.view_is

pub returns-in_err-push-clause-err : goal.returns-in_err-push-clause-err
returns-in_err-push-clause-err c =
    let more = c.place_of.new.self in
    let same = kept_ready c.self.inside.keys more c.self.inside.seats.seats c.self.inside.ready.items
    c.in_ok-cohort.ensures.stay c.self.invariant.0 in
    on_err c.from_residual-in_err-push.result _
    (ap (ready_of more) c.in_err-push.ensures.items ∙ same ∙ ap (λ (h : Held). h.ready) c.self.view_is)

pub invariant_of-self-2 : goal.invariant_of-self-2
invariant_of-self-2 c =
    let more = c.place_of.new.self in
    let seats = c.self.inside.seats.seats in
    let of : IsCohortOf c.args.sub seats c.in-Some.cohort = rw (← c.make_cohort.ensures.seats, ← c.as_slice.ensures) c.in-Some.ensures.some in
    let at = c.in_ok-cohort.ensures.place ∙ ap (λ (k : CohortKey). Some k) c.in_ok-key.ensures in
    let seated = paired_seated c.self.inside.keys more seats c.self.inside.ready.items c.args.sub c.in-Some.cohort
    c.in_ok-cohort.cohort c.get-before.result.now c.args.cursor.now c.in_ok-cohort.ensures.stay
    c.in_ok-cohort.ensures.grows of c.get-before.ensures at c.self.invariant.0 in (
      rw (c.make_cohort.ensures.seats, c.in_ok-push.ensures.items) seated,
      omega (arith, c.len.ensures, c.in_ok-make_cohort.ensures.ok, c.in_ok-cohort.ensures.most),
      rw c.make_cohort.ensures.seats (polled_more c.self.inside.keys more seats c.self.inside.pollers
          c.in_ok-cohort.ensures.stay c.self.invariant.0.sound c.self.invariant.2),
    )

pub returns-clause-entries : goal.returns-clause-entries
returns-clause-entries c =
    ap (entries_of c.place_of.new.self) c.make_cohort.ensures.seats
    ∙ more_seen c.self.inside.keys c.place_of.new.self c.self.inside.seats.seats c.in_ok-cohort.ensures.stay
    c.self.invariant.0.sound
    ∙ ap (λ (h : Held). h.entries) c.self.view_is

pub returns-clause-ok : goal.returns-clause-ok
returns-clause-ok c =
    let more = c.place_of.new.self in
    let at = c.in_ok-cohort.ensures.place ∙ ap (λ (k : CohortKey). Some k) c.in_ok-key.ensures in
    let paired = paired_seen c.self.inside.keys more c.self.inside.seats.seats c.self.inside.ready.items c.args.sub
    c.in_ok-cohort.cohort c.get-before.result.now c.args.cursor.now c.in_ok-cohort.ensures.stay at c.self.invariant.0 in
    rw (← c.self.view_is) (ap (ready_of more) c.in_ok-push.ensures.items ∙ paired)
