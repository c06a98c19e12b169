use Rattle.std.proofs.Common.{◌∙◌, ◌<◌, List, ap, sym, subst, length, arith}
use Rattle.std.specs.List.{All}
use Rattle.cohort_map.specs.declared.key.CohortKey.{CohortKey}
use Rattle.cohort_map.specs.declared.seat.Seat.{Seat}
use Rattle.cohort_map.specs.Entries.{Held, Entry, Ready}
use Rattle.cohort_map.specs.Seats.{IsSeated, IsCut, IsWithin, IsSound, entries_of}
use Rattle.cohort_map.proofs.Alls.{all_weaker}
use Rattle.cohort_map.specs.Polled.{ArePolled, IsKept}
use Rattle.cohort_map.proofs.Entering.{on_err, kept_seated, kept_seen, kept_ready, new_seat, new_seated, new_seen, kept_polled, same_key}
use Rattle.cohort_map.proofs.Polling.{polled_pushed, polled_made}
use Rattle.cohort_map.proofs.Rehoming.{got_within}
use Rattle.cohort_map.proofs.map.CohortMap.enter.Goals as goal

pub make_cohort-requires-clause-count : goal.make_cohort-requires-clause-count
make_cohort-requires-clause-count c = let few = c.self.invariant.1 in omega (arith, c.len.ensures)

pub make_cohort-requires-clause-within : goal.make_cohort-requires-clause-within
make_cohort-requires-clause-within c =
    all_weaker (IsSound (length c.self.inside.keys)) (IsWithin c.len.result)
    (λ s sound. let within = sound.within in omega (arith, c.len.ensures)) c.self.inside.seats.seats c.self.invariant.0.sound

pub push-requires : goal.push-requires
push-requires c =
    let within = got_within c.place_of.new.self c.in_ok-cohort.cohort _ c.in_ok-cohort.ensures.place in
    omega (arith, c.len.ensures, c.in_ok-make_cohort.ensures.ok, c.in_ok-cohort.ensures.most, c.drop_empty_end.ensures.cohorts)

pub invariant_of-self-in_err-cohort : goal.invariant_of-self-in_err-cohort
invariant_of-self-in_err-cohort c =
    let few = c.self.invariant.1 in
    rw (c.in_err-cohort.ensures.err, c.make_cohort.ensures.seats) (
      c.self.invariant.0,
      omega (arith, c.make_cohort.ensures.kept),
      polled_made c.self.inside.keys c.self.inside.seats.seats c.self.inside.pollers c.make_list.new.pollers
          c.make_list.ensures.made c.self.invariant.2,
    )

pub invariant_of-self-in_err-push : goal.invariant_of-self-in_err-push
invariant_of-self-in_err-push c =
    let more = c.place_of.new.self in
    let cut = subst (λ (ss : List Seat). IsCut ss c.drop_empty_end.new.self.seats) c.make_cohort.ensures.seats c.drop_empty_end.ensures.cut in
    let kept = kept_seated c.self.inside.keys more c.self.inside.seats.seats c.drop_empty_end.new.self.seats c.self.inside.ready.items c.in_ok-cohort.ensures.stay c.in_ok-cohort.ensures.grows cut c.self.invariant.0 in (
      subst (λ (ss : List Seat). IsSeated more ss c.self.inside.ready.items) (sym c.in_err-push.ensures.err) kept,
      omega (arith, c.len.ensures, c.in_ok-make_cohort.ensures.ok, c.in_ok-cohort.ensures.most, c.drop_empty_end.ensures.cohorts, c.push.ensures.cohorts),
      subst (λ (ss : List Seat). ArePolled more ss c.make_list.new.pollers) (sym c.in_err-push.ensures.err)
          (kept_polled c.self.inside.keys more c.self.inside.seats.seats c.drop_empty_end.new.self.seats
          c.self.inside.pollers c.make_list.new.pollers c.in_ok-cohort.ensures.stay c.self.invariant.0.sound cut
          c.make_list.ensures.made c.self.invariant.2),
    )

pub returns-in_err-push-clause-err : goal.returns-in_err-push-clause-err
returns-in_err-push-clause-err c =
    let more = c.place_of.new.self in
    let cut = subst (λ (ss : List Seat). IsCut ss c.drop_empty_end.new.self.seats) c.make_cohort.ensures.seats c.drop_empty_end.ensures.cut in
    let same = kept_seen c.self.inside.keys more c.self.inside.seats.seats c.drop_empty_end.new.self.seats c.self.inside.ready.items c.in_ok-cohort.ensures.stay cut c.self.invariant.0 in
    on_err c.from_residual-in_err-push.result _ (ap (entries_of more) c.in_err-push.ensures.err ∙ same ∙ ap (λ (h : Held). h.entries) c.self.view_is)

pub returns-in_err-push-clause-ready : goal.returns-in_err-push-clause-ready
returns-in_err-push-clause-ready c =
    kept_ready c.self.inside.keys c.place_of.new.self c.self.inside.seats.seats c.self.inside.ready.items c.in_ok-cohort.ensures.stay c.self.invariant.0
    ∙ ap (λ (h : Held). h.ready) c.self.view_is

pub get-requires : goal.get-requires
get-requires c = got_within c.place_of.new.self c.in_ok-cohort.cohort _ c.in_ok-cohort.ensures.place

pub invariant_of-self-2 : goal.invariant_of-self-2
invariant_of-self-2 c =
    let more = c.place_of.new.self in
    let cut = subst (λ (ss : List Seat). IsCut ss c.drop_empty_end.new.self.seats) c.make_cohort.ensures.seats c.drop_empty_end.ensures.cut in
    let key : CohortKey = record { poller = c.args.poller; binding = c.args.binding } in
    let same = same_key more c.in_ok-cohort.cohort key c.get.result.now c.in_ok-cohort.ensures.place c.get.ensures in
    let listed = subst (λ (k : CohortKey). IsKept k.poller c.make_list.new.pollers) same c.in_ok-make_list.ensures.there in
    let above = subst (λ (h : Held). All (λ (e : Entry). e.number < c.args.sub) h.entries) (sym c.self.view_is) c.requires.above in
    let apart = subst (λ (h : Held). All (λ (r : Ready). r.number < c.args.sub) h.ready) (sym c.self.view_is) c.requires.apart in
    let seated = new_seated c.self.inside.keys more c.self.inside.seats.seats c.drop_empty_end.new.self.seats c.self.inside.ready.items c.args.sub c.in_ok-cohort.cohort
    (record { poller = c.args.poller; binding = c.args.binding }) c.in_ok-cohort.ensures.stay c.in_ok-cohort.ensures.grows cut c.drop_empty_end.ensures.end c.in_ok-cohort.ensures.place above apart c.self.invariant.0 in (
      subst (λ (ss : List Seat). IsSeated more ss c.self.inside.ready.items) (sym c.in_ok-push.ensures.ok) seated,
      omega (arith, c.len.ensures, c.in_ok-make_cohort.ensures.ok, c.in_ok-cohort.ensures.most, c.drop_empty_end.ensures.cohorts, c.push.ensures.cohorts),
      subst (λ (ss : List Seat). ArePolled more ss c.list_place.new.pollers) (sym c.in_ok-push.ensures.ok)
          (polled_pushed more c.drop_empty_end.new.self.seats (new_seat c.args.sub c.in_ok-cohort.cohort)
          c.get.result.now _ c.make_list.new.pollers c.list_place.new.pollers c.get.ensures
          (ap (λ (ss : List Seat). length ss) c.as_slice-place.ensures) listed c.list_place.ensures
          (kept_polled c.self.inside.keys more c.self.inside.seats.seats c.drop_empty_end.new.self.seats
          c.self.inside.pollers c.make_list.new.pollers c.in_ok-cohort.ensures.stay c.self.invariant.0.sound cut
          c.make_list.ensures.made c.self.invariant.2)),
    )

pub returns-clause-ok : goal.returns-clause-ok
returns-clause-ok c =
    let more = c.place_of.new.self in
    let cut = subst (λ (ss : List Seat). IsCut ss c.drop_empty_end.new.self.seats) c.make_cohort.ensures.seats c.drop_empty_end.ensures.cut in
    let joined = new_seen c.self.inside.keys more c.self.inside.seats.seats c.drop_empty_end.new.self.seats c.self.inside.ready.items c.args.sub c.in_ok-cohort.cohort
    (record { poller = c.args.poller; binding = c.args.binding }) c.in_ok-cohort.ensures.stay cut c.in_ok-cohort.ensures.place c.self.invariant.0 in
    rw (← c.self.view_is) (ap (entries_of more) c.in_ok-push.ensures.ok ∙ joined)

pub returns-clause-ready : goal.returns-clause-ready
returns-clause-ready c =
    kept_ready c.self.inside.keys c.place_of.new.self c.self.inside.seats.seats c.self.inside.ready.items c.in_ok-cohort.ensures.stay c.self.invariant.0
    ∙ ap (λ (h : Held). h.ready) c.self.view_is
