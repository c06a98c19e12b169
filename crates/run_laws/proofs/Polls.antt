-- After a poll nobody is due: each take leaves fewer due, and no publication makes anybody due.
use Rattle.std.proofs.Common.{◌≡◌, inl, inr, ◌∙◌, sym, ap, refl, subst, ℕ, zero, suc, ◌≤◌, ◌<◌, ◌==◌, Bool, true, false, ◌&&◌, not, cond, Some, None, Option, List, [], ◌∷◌, length, take, filter, arith}
use Rattle.std.specs.List.{list_any, find}
use Rattle.role_model.specs.declared.metadata.Metadata.{Metadata}
use Rattle.machine.specs.State.{State, Subscription, Member, Job, Tick, Take, Publish}
use Rattle.machine.specs.Batches.{is_subscription, is_member, are_of_one_cohort, are_polled_together, is_due, first_of_each, batch, members_of, next_job, take_from, job_at}
use Rattle.machine.specs.Publication.{publish, database_of}
use Rattle.machine.specs.Run.{happens, run}
use Rattle.machine.specs.Transcript.{take_and_publish, publish_due}
use Rattle.run_laws.specs.Takings.{PollsEndIdle}
use Rattle.run_laws.proofs.Among.{Among, among_passing, among_found, among_any, and_both, found_among, some_of}
use Rattle.run_laws.proofs.SameCohort.{poller_equiv}
use Rattle.run_laws.proofs.Cases.{members_keep}
use Rattle.run_laws.proofs.Apart.{Sound, cohort_own, among_due, due_among}
use Rattle.run_laws.proofs.Taking.{joins, joiner_member, named_due}
use Rattle.run_laws.proofs.SoundRuns.{event_sound, run_sound}

-- Lists

at_most : {X : Type 0} (p : X → Bool) (xs : List X) → length (filter p xs) ≤ length xs
at_most p [] = omega arith
at_most p (x ∷ xs) = by_test (p x) x (filter p xs) (at_most p xs)
  where
    by_test : {X : Type 0} (b : Bool) (x : X) (ys : List X) → {n : ℕ} → length ys ≤ n → length (cond b (x ∷ ys) ys) ≤ suc n
    by_test true x ys h = omega (arith, h)
    by_test false x ys h = omega (arith, h)

fewer : {X : Type 0} (p : X → Bool) (x : X) (xs : List X) → Among x xs → p x ≡ false → length (filter p xs) < length xs
fewer p x [] a h = absurd a
fewer p x (z ∷ xs) (inl e) h =
    let left = at_most p xs in
    let is : length (filter p (z ∷ xs)) ≡ length (filter p xs) = ap (λ (b : Bool). length (cond b (z ∷ filter p xs) (filter p xs))) (sym (ap p e) ∙ h) in
    omega (arith, left, is)
fewer p x (z ∷ xs) (inr a) h = by_test (p z) z (filter p xs) (fewer p x xs a h)
  where
    by_test : {X : Type 0} (b : Bool) (z : X) (ys : List X) → {n : ℕ} → length ys < n → length (cond b (z ∷ ys) ys) < suc n
    by_test true z ys h = omega (arith, h)
    by_test false z ys h = omega (arith, h)

-- A take

-- the first of some is one of a batch that has room
first_in : (size : ℕ) (x : Subscription) (subs : List Subscription) → 1 ≤ size → Among x subs → (y : Subscription) × Among y (take size (first_of_each [] subs))
first_in zero x subs room a = absurd (omega (arith, room))
first_in (suc size) x [] room a = absurd a
first_in (suc size) x (z ∷ zs) room a = (z, inl refl)

-- the one whose number is known is found
pub due_found : (s : State) → Sound s → (number : ℕ) → Among number s.due → (first : Subscription) × (find (is_due s.due) s.subscriptions ≡ Some first)
due_found s w number a =
    let known = w.due_known number a in
    let due : is_due s.due known.0 ≡ true = among_due s.due known.0 (subst (λ (n : ℕ). Among n s.due) (sym known.2) a) in
    some_of (find (is_due s.due) s.subscriptions) (among_found (is_due s.due) known.0 s.subscriptions known.1 due)

-- a take has a member that was due
pub record TookOne (s : State) (ms : List Member) : Type 0 where
  pub one : Subscription
  pub due : Among one.number s.due
  pub member : is_member one.number (next_job s ms) ≡ true

pub took_one : (size : ℕ) (s : State) → Sound s → 1 ≤ size → (first : Subscription) → find (is_due s.due) s.subscriptions ≡ Some first → TookOne s (members_of (batch size s.due s.subscriptions first) s.subscriptions)
took_one size s w room first found =
    let cohorts = batch size s.due s.subscriptions first in
    let p : Subscription → Bool = λ sub. is_due s.due sub && are_polled_together first sub in
    let of = found_among (is_due s.due) s.subscriptions first found in
    let within : Among first (filter p s.subscriptions) = among_passing p first s.subscriptions of.0 (and_both (is_due s.due first) (are_polled_together first first) of.1 (poller_equiv.refl first.query)) in
    let one = first_in size first (filter p s.subscriptions) room within in
    let named = named_due size s first one.0 one.1 in
    let joining : joins cohorts one.0 ≡ true =
    and_both one.0.live (list_any (are_of_one_cohort one.0) cohorts) (w.idle one.0 named.0 named.1).0 (among_any (are_of_one_cohort one.0) one.0 cohorts one.1 (cohort_own one.0)) in
    record { one = one.0; due = due_among s.due one.0 named.1; member = joiner_member s cohorts one.0 named.0 joining }

take_leaves : (meta : Metadata) (s : State) → Sound s → 1 ≤ meta.batch_size → (number : ℕ) → Among number s.due → length (happens meta s Take).state.due < length s.due
take_leaves meta s w room number a =
    let first = due_found s w number a in
    let took = took_one meta.batch_size s w room first.0 first.1 in
    let job = next_job s (members_of (batch meta.batch_size s.due s.subscriptions first.0) s.subscriptions) in
    subst (λ (o : Option Subscription). length (take_from meta s o).state.due < length s.due) (sym first.1)
    (fewer (λ n. not (is_member n job)) took.one.number s.due took.due (ap not took.member))

-- A publication

published_by : (meta : Metadata) (number : ℕ) (s : State) (o : Option Job) → length (publish meta number s o).state.due ≤ length s.due
published_by meta number s None = omega arith
published_by meta number s (Some job) =
    members_keep meta (database_of meta s job) (λ t. length t.due ≤ length s.due)
    (λ t number sub at r k. record { live = k; once = (let left = at_most (λ n. not (list_any (λ x. x.number == n && is_subscription sub.number x) t.subscriptions)) t.due in omega (arith, left, k)); stream = λ kind. k })
    job.members s (omega arith)

round_leaves : (meta : Metadata) (s : State) → Sound s → 1 ≤ meta.batch_size → (number : ℕ) → Among number s.due → length (take_and_publish meta s).state.due < length s.due
round_leaves meta s w room number a =
    let t = (happens meta s Take).state in
    let fewer = take_leaves meta s w room number a in
    let more = published_by meta t.jobs_made t (job_at t.jobs_made t.jobs) in
    omega (arith, fewer, more)

-- A poll

round_sound : (meta : Metadata) (s : State) → Sound s → Sound (take_and_publish meta s).state
round_sound meta s w = let t = (happens meta s Take).state in event_sound meta t (Publish t.jobs_made) (event_sound meta s Take w)

ends_idle : (meta : Metadata) → 1 ≤ meta.batch_size → (n : ℕ) (s : State) (due : List ℕ) → s.due ≡ due → Sound s → length due ≤ n → (publish_due meta n s due).state.due ≡ []
ends_idle meta room zero s [] is w low = is
ends_idle meta room zero s (d ∷ due) is w low = absurd (omega (arith, low))
ends_idle meta room (suc n) s [] is w low = is
ends_idle meta room (suc n) s (d ∷ due) is w low =
    let t = (take_and_publish meta s).state in
    let left = round_leaves meta s w room d (subst (λ (l : List ℕ). Among d l) (sym is) (inl refl)) in
    let count = ap (λ (l : List ℕ). length l) is in
    ends_idle meta room n t t.due refl (round_sound meta s w) (omega (arith, left, count, low))

pub polls_end_idle : (meta : Metadata) → PollsEndIdle meta
polls_end_idle meta room h =
    let t = (happens meta (run meta h) Tick).state in ends_idle meta room (length t.due) t t.due refl (event_sound meta (run meta h) Tick (run_sound meta h)) (omega arith)
