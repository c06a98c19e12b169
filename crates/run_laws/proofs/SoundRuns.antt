-- Every event keeps jobs apart, so every run does.
use Rattle.std.proofs.Common.{◌≡◌, ◌∙◌, sym, ap, refl, subst, ℕ, ◌≤◌, Bool, true, Some, List, [], ◌∷◌, append-nil, length-append, arith, Ok}
use Rattle.std.proofs.lemmas.Bool.{eqb-true, eq-eqb}
use Rattle.data_model.specs.Rows.{Database}
use Rattle.data_model.specs.declared.transaction.TxChange.{TxChange}
use Rattle.role_model.specs.declared.metadata.Metadata.{Metadata}
use Rattle.machine.specs.State.{State, Connection, Subscription, Job, Event, opening}
use Rattle.machine.specs.Connections.{end_where, is_of, is_live_id, subscription_of}
use Rattle.machine.specs.Batches.{is_subscription, subscription_at, is_member}
use Rattle.machine.specs.Run.{happens, commit, after_all, run}
use Rattle.run_laws.specs.Laws.{HaveNoCommonMember, HaveNoCommonCohort, IsIdle, BatchesStandApart, KeepsBatchesApart, version_of}
use Rattle.run_laws.proofs.Among.{Among, not_true, all_from_among, pairs_then, found_among, among_found, some_of}
use Rattle.run_laws.proofs.Apart.{HaveOtherNumbers, Sound, cohort_own, among_due}
use Rattle.query_model.specs.Admission.{Admitted}
use Rattle.run_laws.proofs.Cases.{joined, by_event}
use Rattle.run_laws.proofs.Moves.{moves_sound, still_moves, ending_moves}
use Rattle.run_laws.proofs.Publishing.{publish_sound}
use Rattle.run_laws.proofs.Taking.{tick_sound, take_sound, abandon_sound}

-- a state with other connections or more transactions
still_sound : (s t : State) → Sound s → t.subscriptions ≡ s.subscriptions → t.jobs ≡ s.jobs → t.due ≡ s.due → t.jobs_made ≡ s.jobs_made → version_of s ≤ version_of t → Sound t
still_sound s t w subs jobs due jobs_made later = moves_sound s t w (still_moves s t w [] tt (subs ∙ sym (append-nil s.subscriptions)) jobs due jobs_made later)

-- a state in which some subscriptions ended
closed_sound : (number : ℕ) (s : State) (p : Subscription → Bool) → Sound s → Sound (end_where p s)
closed_sound number s p w = moves_sound s (end_where p s) w (ending_moves p s (end_where p s) w refl refl refl refl (omega arith))

linked_sound : (s : State) (cs : List Connection) → Sound s → Sound (record s { connections = cs })
linked_sound s cs w = still_sound s (record s { connections = cs }) w refl refl refl refl (omega arith)

close_sound : (number : ℕ) (s : State) (cs : List Connection) → Sound s → Sound (record (end_where (is_of number) s) { connections = cs })
close_sound number s cs w = linked_sound (end_where (is_of number) s) cs (closed_sound number s (is_of number) w)

joined_sound : (number : ℕ) (id : List ℕ) (s : State) (a : Admitted) → Sound s → Sound (joined s number id a)
joined_sound number id s a w =
    moves_sound s (joined s number id a) w (still_moves s (joined s number id a) w (subscription_of number id a.query a.cursor s ∷ []) (refl, refl) refl refl refl refl (omega arith))

commit_sound : (tx : List TxChange) (s : State) (db : Database) → Sound s → Sound (commit tx s (Ok db)).state
commit_sound tx s db w = still_sound s (commit tx s (Ok db)).state w refl refl refl refl (let longer = length-append s.transactions (tx ∷ []) in omega (arith, longer))

pub event_sound : (meta : Metadata) (s : State) (e : Event) → Sound s → Sound (happens meta s e).state
event_sound meta s e w =
    by_event meta s e (λ t. Sound t.state)
    (record {
      still = λ reply none. w;
      opens = λ number new. linked_sound s _ w;
      closes = λ number reason. close_sound number s _ w;
      acknowledges = λ number session. linked_sound s _ w;
      pongs = λ number. linked_sound s _ w;
      refuses = λ number id fault. linked_sound s _ w;
      joins = λ number id a j. joined_sound number id s a w;
      completes = λ number id. closed_sound number s (is_live_id number id) w;
      goes = λ number. close_sound number s _ w;
      commits = λ tx db e. commit_sound tx s db w;
      ticks = tick_sound s w;
      takes = λ first e. take_sound meta s (Some first) w;
      abandons = λ number job at. abandon_sound number s (Some job) w at;
      drains = λ number rest text. linked_sound s _ w;
    }) (λ number job at. publish_sound meta number s (Some job) w at)

pub opening_sound : Sound opening
opening_sound = record {
  numbered = record { bounded = λ x a. absurd a; unique = λ x y a b e. absurd a };
  members_known = λ job a number h. absurd a;
  due_known = λ number a. absurd a;
  idle = λ x a d. absurd a;
  apart = λ i j k l. absurd k;
  distinct = tt;
  counted = λ job a. absurd a;
  versions = λ job a. absurd a;
}

pub after_sound : (meta : Metadata) (h : List Event) (s : State) → Sound s → Sound (after_all meta s h)
after_sound meta [] s w = w
after_sound meta (e ∷ h) s w = after_sound meta h (happens meta s e).state (event_sound meta s e w)

pub run_sound : (meta : Metadata) (h : List Event) → Sound (run meta h)
run_sound meta h = after_sound meta h opening opening_sound

-- In the words of the law

no_member : (s : State) → Sound s → (i j : Job) → Among i s.jobs → Among j s.jobs → HaveOtherNumbers i j → HaveNoCommonMember i j
no_member s w i j a b other number h =
    not_true (is_member number j) (λ g.
    let known = w.members_known i a number h in
    let is_of : (k : Job) → is_member number k ≡ true → is_member known.0.number k ≡ true = (λ k m. ap (λ (n : ℕ). is_member n k) known.2 ∙ m) in
    other (w.apart i j a b known.0 known.0 known.1 known.1 (cohort_own known.0) (is_of i h) (is_of j g)))

no_cohort : (s : State) → Sound s → (i j : Job) → Among i s.jobs → Among j s.jobs → HaveOtherNumbers i j → HaveNoCommonCohort s.subscriptions i j
no_cohort s w i j a b other =
    all_from_among _ s.subscriptions (λ x c. all_from_among _ s.subscriptions (λ y d same m. not_true (is_member y.number j) (λ n. other (w.apart i j a b x y c d same m n))))

pub idle_due : (s : State) → Sound s → (number : ℕ) → Among number s.due → IsIdle s number
idle_due s w number a =
    let known = w.due_known number a in
    let found = some_of (subscription_at number s.subscriptions) (among_found (is_subscription number) known.0 s.subscriptions known.1 (eq-eqb known.0.number number known.2)) in
    let within = found_among (is_subscription number) s.subscriptions found.0 found.1 in
    let is = eqb-true found.0.number number within.1 in
    let free = w.idle found.0 within.0 (among_due s.due found.0 (subst (λ (n : ℕ). Among n s.due) (sym is) a)) in
    (found.0, found.1, free.0, free.1)

stands_apart : (s : State) → Sound s → BatchesStandApart s
stands_apart s w = record {
  members = pairs_then HaveOtherNumbers HaveNoCommonMember s.jobs (λ i j a b other. no_member s w i j a b other) w.distinct;
  cohorts = pairs_then HaveOtherNumbers (HaveNoCommonCohort s.subscriptions) s.jobs (λ i j a b other. no_cohort s w i j a b other) w.distinct;
  due = all_from_among (IsIdle s) s.due (λ number a. idle_due s w number a);
}

pub keeps_batches_apart : (meta : Metadata) → KeepsBatchesApart meta
keeps_batches_apart meta h = stands_apart (run meta h) (run_sound meta h)
