-- What events do to the number of subscriptions and to the open jobs.
use Rattle.std.proofs.Common.{◌≡◌, ◌≢◌, ◌∙◌, ◌≤◌, ◌<◌, ◌+◌, ◌==◌, ◌||◌, arith, sym, ap, subst, refl, inl, ℕ, Bool, true, false, not, Option, Some, None, List, [], ◌∷◌, ◌++◌, length, length-append, map, filter}
use Rattle.std.specs.Prelude.{find, ◌&&◌}
use Rattle.std.specs.List.{list_any, AllByRecursion}
use Rattle.std.proofs.lemmas.List.{length-map}
use Rattle.std.proofs.lemmas.List.Filters.{length-filter_both}
use Rattle.std.proofs.lemmas.Bool.{eq-eqb, eqb-true}
use Rattle.role_model.specs.declared.metadata.Metadata.{Metadata}
use Rattle.machine.specs.State.{State, Event, Tick, Take, Publish, Abandon, Reply, Did, Abandoned, Published, Taken, Nobody, Ticked, Subscription, Job, Step}
use Rattle.machine.specs.Batches.{take_from, taken_with, next_job, members_of, batch, is_subscription, is_due, is_busy, is_job, job_at, without_job, abandon, idle}
use Rattle.machine.specs.Publication.{publish, database_of}
use Rattle.machine.specs.Run.{happens, run}
use Rattle.hub_model.proofs.Items.{found_none, filter_all}
use Rattle.run_laws.specs.Takings.{IsOfLive}
use Rattle.run_laws.proofs.Among.{Among, found_among, among_any}
use Rattle.run_laws.proofs.Cases.{by_event}
use Rattle.run_laws.proofs.Following.{IsNewer, event_proceeds, members_follow}
use Rattle.run_laws.proofs.Order.{published_jobs}
use Rattle.run_laws.proofs.Ascending.{due_ascend}

abbrev pub subs : State → ℕ
subs s = length s.subscriptions

-- ---- subscriptions

one_newer : (n : ℕ) (more : List Subscription) → IsNewer n more → length more ≤ 1
one_newer n [] h = omega arith
one_newer n (x ∷ []) h = omega arith
one_newer n (x ∷ y ∷ more) h = absurd h

-- an event adds one subscription at most
pub subs-more : (meta : Metadata) (s : State) (e : Event) → subs (happens meta s e).state ≤ subs s + 1
subs-more meta s e =
    let p = event_proceeds meta s e in
    omega (
      arith,
      ap (λ (l : List Subscription). length l) p.is,
      length-append (map p.change s.subscriptions) p.more,
      length-map s.subscriptions p.change,
      one_newer (length s.subscriptions) p.more p.newer,
    )

-- replies of events that add none
abbrev pub AddsNone : Reply → Type 0
AddsNone Did = ⊥
AddsNone _ = Unit {0}

pub subs-same : (meta : Metadata) (s : State) (e : Event) → AddsNone (happens meta s e).reply →
    subs (happens meta s e).state ≡ subs s
subs-same meta s e =
    by_event meta s e (λ t. AddsNone t.reply → subs t.state ≡ subs s)
    (record {
      still = λ reply none adds. refl;
      opens = λ number new adds. refl;
      closes = λ number reason adds. absurd adds;
      acknowledges = λ number session adds. absurd adds;
      pongs = λ number adds. absurd adds;
      refuses = λ number id fault adds. absurd adds;
      joins = λ number id a j adds. absurd adds;
      completes = λ number id adds. absurd adds;
      goes = λ number adds. absurd adds;
      commits = λ tx db ok adds. refl;
      ticks = λ adds. refl;
      takes = λ first found adds. refl;
      abandons = λ number job at adds. refl;
      drains = λ number rest text adds. refl;
    })
    (λ number job at adds.
    let f = members_follow meta (database_of meta s job) job.members s in
    ap (λ (l : List Subscription). length l) f.is ∙ length-map s.subscriptions f.change)

-- ---- jobs

-- the replies of events that neither open nor close a job
abbrev pub IsQuiet : Reply → Type 0
IsQuiet (Taken job) = ⊥
IsQuiet Abandoned = ⊥
IsQuiet (Published version) = ⊥
IsQuiet _ = Unit {0}

pub jobs-same : (meta : Metadata) (s : State) (e : Event) → IsQuiet (happens meta s e).reply →
    (happens meta s e).state.jobs ≡ s.jobs
jobs-same meta s e =
    by_event meta s e (λ t. IsQuiet t.reply → t.state.jobs ≡ s.jobs)
    (record {
      still = λ reply none quiet. refl;
      opens = λ number new quiet. refl;
      closes = λ number reason quiet. refl;
      acknowledges = λ number session quiet. refl;
      pongs = λ number quiet. refl;
      refuses = λ number id fault quiet. refl;
      joins = λ number id a j quiet. refl;
      completes = λ number id quiet. refl;
      goes = λ number quiet. refl;
      commits = λ tx db ok quiet. refl;
      ticks = λ quiet. refl;
      takes = λ first found quiet. absurd quiet;
      abandons = λ number job at quiet. absurd quiet;
      drains = λ number rest text quiet. refl;
    })
    (λ number job at quiet. absurd quiet)

-- no job of this number
unnamed : (number : ℕ) (jobs : List Job) → job_at number jobs ≡ None → without_job number jobs ≡ jobs
unnamed number jobs e =
    filter_all (λ job. not (is_job number job)) jobs
    (λ job a. ap not (found_none (is_job number) jobs e job a))

publish_leaves : (meta : Metadata) (number : ℕ) (s : State) (o : Option Job) → job_at number s.jobs ≡ o →
    (publish meta number s o).state.jobs ≡ without_job number s.jobs
publish_leaves meta number s (Some job) e = published_jobs meta number s job
publish_leaves meta number s None e = sym (unnamed number s.jobs e)

pub jobs-published : (meta : Metadata) (s : State) (number : ℕ) →
    (happens meta s (Publish number)).state.jobs ≡ without_job number s.jobs
jobs-published meta s number = publish_leaves meta number s (job_at number s.jobs) refl

abandon_leaves : (number : ℕ) (s : State) (o : Option Job) → job_at number s.jobs ≡ o →
    (abandon number s o).state.jobs ≡ without_job number s.jobs
abandon_leaves number s (Some job) e = refl
abandon_leaves number s None e = sym (unnamed number s.jobs e)

pub jobs-abandoned : (meta : Metadata) (s : State) (number : ℕ) →
    (happens meta s (Abandon number)).state.jobs ≡ without_job number s.jobs
jobs-abandoned meta s number = abandon_leaves number s (job_at number s.jobs) refl

-- a job that isn't open changes nothing
publish_none : (meta : Metadata) (number : ℕ) (s : State) (o : Option Job) → o ≡ None →
    publish meta number s o ≡ publish meta number s None
publish_none meta number s o e = ap (λ (x : Option Job). publish meta number s x) e

pub published-none : (meta : Metadata) (s : State) (number : ℕ) → job_at number s.jobs ≡ None →
    happens meta s (Publish number) ≡ publish meta number s None
published-none meta s number e = publish_none meta number s (job_at number s.jobs) e

-- what a take gives
pub record Opens (s t : State) (job : Job) : Type 0 where
  pub jobs : t.jobs ≡ s.jobs ++ job ∷ []
  pub made : t.jobs_made ≡ job.number
  pub some : 0 < length s.due

some_due : (due : List ℕ) (x : Subscription) → is_due due x ≡ true → 0 < length due
some_due [] x e = absurd (cc)
some_due (d ∷ due) x e = omega arith

taken_opens : (s : State) (own job : Job) → own.number ≡ s.jobs_made + 1 → 0 < length s.due → Taken own ≡ Taken job →
    Opens s (taken_with s own).state job
taken_opens s own job number some e =
    let same : own ≡ job = cc in
    record {
      jobs = ap (λ (j : Job). s.jobs ++ j ∷ []) same;
      made = sym number ∙ ap (λ (j : Job). j.number) same;
      some = some;
    }

take_opens : (meta : Metadata) (s : State) (o : Option Subscription) (job : Job) →
    find (is_due s.due) s.subscriptions ≡ o → (take_from meta s o).reply ≡ Taken job →
    Opens s (take_from meta s o).state job
take_opens meta s (Some first) job at e =
    taken_opens s (next_job s (members_of (batch meta.batch_size s.due s.subscriptions first) s.subscriptions)) job refl
    (some_due s.due first (found_among (is_due s.due) s.subscriptions first at).1) e
take_opens meta s None job at e = absurd (cc)

pub taken : (meta : Metadata) (s : State) (job : Job) → (happens meta s Take).reply ≡ Taken job →
    Opens s (happens meta s Take).state job
taken meta s job e = take_opens meta s (find (is_due s.due) s.subscriptions) job refl e

-- nobody is due where a take gives none

not_taken : (meta : Metadata) (s : State) (o : Option Subscription) → (take_from meta s o).reply ≡ Nobody →
    (o ≡ None) × ((take_from meta s o).state ≡ s)
not_taken meta s (Some first) e = absurd (cc)
not_taken meta s None e = (refl, refl)

both_tests : (b : Bool) → b ≡ true → b ≡ false → ⊥
both_tests b e f = cc

none_due : (s : State) (due : List ℕ) → AllByRecursion (IsOfLive s) due → find (is_due due) s.subscriptions ≡ None →
    due ≡ []
none_due s [] live e = refl
none_due s (d ∷ due) live e =
    let first : IsOfLive s d = live.0 in
    let there = found_among (is_subscription d) s.subscriptions first.0 first.1 in
    let number : d ≡ first.0.number = sym (eqb-true first.0.number d there.1) in
    absurd (both_tests (is_due (d ∷ due) first.0)
    (among_any (λ n. n == first.0.number) d (d ∷ due) (inl refl) (eq-eqb d first.0.number number))
    (found_none (is_due (d ∷ due)) s.subscriptions e first.0 there.0))

pub record IsIdle (s t : State) : Type 0 where
  pub due : s.due ≡ []
  pub same : t ≡ s

pub nobody : (meta : Metadata) (h : List Event) → (happens meta (run meta h) Take).reply ≡ Nobody →
    IsIdle (run meta h) (happens meta (run meta h) Take).state
nobody meta h e =
    let s : State = run meta h in
    let n = not_taken meta s (find (is_due s.due) s.subscriptions) e in
    record { due = none_due s s.due (due_ascend meta h).1 n.0; same = n.1 }

-- what a tick gives

filter_le : (p : Subscription → Bool) (xs : List Subscription) → length (filter p xs) ≤ length xs
filter_le p xs = omega (arith, length-filter_both p (λ x. not (p x)) (λ x. refl) xs)

the_count : (m n : ℕ) → Ticked m ≡ Ticked n → m ≡ n
the_count m n e = cc

-- only subscriptions become due
pub record IsTicked (s t : State) (count : ℕ) : Type 0 where
  pub due : length t.due ≡ count
  pub few : count ≤ subs s

pub ticked : (meta : Metadata) (s : State) (count : ℕ) → (happens meta s Tick).reply ≡ Ticked count →
    IsTicked s (happens meta s Tick).state count
ticked meta s count e =
    let waits : Subscription → Bool = λ sub. sub.live && not (is_busy s.subscriptions s.jobs sub) in
    let many : length (idle s.subscriptions s.jobs) ≡ count =
    the_count (length (idle s.subscriptions s.jobs)) count e in
    record {
      due = many;
      few = omega (
        arith,
        many,
        length-map (filter waits s.subscriptions) (λ (sub : Subscription). sub.number),
        filter_le waits s.subscriptions,
      );
    }
