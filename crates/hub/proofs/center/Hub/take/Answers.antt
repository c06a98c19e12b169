use Rattle.std.proofs.Common.{◌≡◌, ◌∙◌, sym, ap, subst, ℕ, ◌≤◌, ◌+◌, true, List, [], ◌∷◌, ◌++◌, arith}
use Rattle.std.specs.Option.{is_some}
use Rattle.std.specs.List.{AllByRecursion}
use Rattle.data_model.specs.Rows.{Fits}
use Rattle.data_model.specs.declared.catalog.Catalog.{Catalog}
use Rattle.cohort_map.specs.declared.member.Member.{Member}
use Rattle.cohort_map.specs.Entries.{Entry, has}
use Rattle.cohort_map.specs.Batches.{batch_of, opened}
use Rattle.subscription_table.specs.Kept.{held_at}
use Rattle.machine.specs.State.{Take, Nobody}
use Rattle.hub_model.specs.declared.job.OpenJob.{OpenJob}
use Rattle.hub_model.specs.Kept.{Kept}
use Rattle.hub_model.specs.Stands.{Does}
use Rattle.hub_model.specs.Steps.{counted, takes}
use Rattle.hub_model.specs.Replies.{TookJob}
use Rattle.hub_model.proofs.Takes.{does_nobody}
use Rattle.hub_model.proofs.TakenJobs.{took_job}
use Rattle.hub_model.proofs.ApartRuns.{takes_counted}
use Rattle.hub.specs.Seen.{seen}
use Rattle.hub.specs.Taking.{ArePlaces, HasEntry, IsJobFor}
use Rattle.hub.proofs.Runs.{is_run, jobs_apart}
use Rattle.hub.proofs.Sound.{sound_after}
use Rattle.hub.proofs.Takings.{places, have_entries, first_has_entry, first_is_held, some_first, no_first, asks_for}
use Rattle.hub.proofs.center.Hub.take.Goals as goal
use Rattle.hub.proofs.center.Hub.take.Goals.{After-get, After-as_slice, After-push_reserved}

-- ---- the batch

is_batch : (c : After-get) →
    c.in_ok-members.members ≡ batch_of c.self.inside.meta.batch_size c.self.inside.cohorts.entries
is_batch c =
    c.in_ok-members.ensures
    ∙ ap (λ (n : ℕ). batch_of n c.self.inside.cohorts.entries) c.batch_size-size.ensures.value

pub job_of-requires-clause-places : goal.job_of-requires-clause-places
job_of-requires-clause-places c =
    let b = (goal.at.job_of-requires-clause-places c).After-get in
    subst ArePlaces (sym c.as_slice.ensures)
    (places c.self.inside.meta.batch_size c.self.inside.cohorts.entries c.in_ok-members.members (is_batch b))

pub job_of-requires-clause-entries : goal.job_of-requires-clause-entries
job_of-requires-clause-entries c =
    let b = (goal.at.job_of-requires-clause-entries c).After-get in
    subst (λ (k : Kept). AllByRecursion (HasEntry k.entries) c.as_slice.result.now) c.self.view_is
    (subst (λ (ms : List Member). AllByRecursion (HasEntry c.self.inside.cohorts.entries) ms) (sym c.as_slice.ensures)
    (have_entries c.self.inside.meta.batch_size c.self.inside.cohorts.entries c.in_ok-members.members (is_batch b)))

pub job_of-requires-clause-first : goal.job_of-requires-clause-first
job_of-requires-clause-first c =
    let b = (goal.at.job_of-requires-clause-first c).After-get in
    subst (λ (k : Kept). has c.in-Some.first.now.sub k.entries ≡ true) c.self.view_is
    (first_has_entry c.self.inside.meta.batch_size c.self.inside.cohorts.entries c.in_ok-members.members
    c.in-Some.first.now (is_batch b) c.in-Some.ensures.value)

pub job_of-requires-clause-held : goal.job_of-requires-clause-held
job_of-requires-clause-held c =
    let b = (goal.at.job_of-requires-clause-held c).After-get in
    let k = seen c.self.inside in
    let sound = c.self.invariant in
    subst (λ (k : Kept). is_some (held_at c.in-Some.first.now.sub k.held) ≡ true) c.self.view_is
    (first_is_held k _ c.in_ok-members.members c.in-Some.first.now (is_run k.meta sound.history) sound.stands.represents
    (is_batch b) c.in-Some.ensures.value)

-- ---- nobody is due

nobody : (c : After-get) → (c.in_ok-members.members ≡ []) →
    Does (seen c.self.inside) (counted (seen c.self.inside)) Take Nobody [] []
nobody c none =
    let k = seen c.self.inside in
    does_nobody k (is_run k.meta)
    (subst (λ (n : ℕ). 1 ≤ n) c.batch_size-size.ensures.value c.batch_size-size.ensures.range.0)
    (sym (is_batch c) ∙ none)

pub invariant_of-self : goal.invariant_of-self
invariant_of-self c =
    let x = c.self.inside in
    let s = c.self.invariant in
    let none = no_first c.in_ok-members.members c.in_default.ensures.value in
    sound_after x (record x { events = x.events + 1 }) Take Nobody [] [] s
    (nobody (goal.at.invariant_of-self c).After-get none)
    (record {
      catalog = s.catalog;
      promised = s.promised;
      ready = s.ready;
      version = omega (arith, s.version);
      subscribed = omega (arith, s.subscribed);
      jobs_made = omega (arith, s.jobs_made);
    })

pub returns-in_default-clause-reply : goal.returns-in_default-clause-reply
returns-in_default-clause-reply c =
    subst (λ (k : Kept). Does k (counted (seen c.self.inside)) Take Nobody [] []) c.self.view_is
    (nobody (goal.at.returns-in_default-clause-reply c).After-get
    (no_first c.in_ok-members.members c.in_default.ensures.value))

-- ---- a job

-- what is kept after the take of a job
abbrev after : Kept → List Entry → List OpenJob → Kept
after k entries jobs =
    counted (record k { entries = entries; jobs = jobs; jobs_made = k.jobs_made + 1 })

takes_as : (k : Kept) (members : List Member) (number version : ℕ) (entries : List Entry) (jobs : List OpenJob) →
    number ≡ k.jobs_made + 1 → version ≡ k.version → entries ≡ opened number members k.entries →
    jobs ≡ k.jobs ++ record { number = number; version = version; members = members } ∷ [] →
    counted (takes members k) ≡ after k entries jobs
takes_as k members number version entries jobs n v e j =
    (λ i. after k (opened (sym n i) members k.entries)
    (k.jobs ++ record { number = sym n i; version = sym v i; members = members } ∷ []))
    ∙ (λ i. after k (sym e i) (sym j i))

took : (c : After-push_reserved) →
    c.in_ok-members.members ≡ batch_of c.self.inside.meta.batch_size c.self.inside.cohorts.entries →
    TookJob (seen c.self.inside) (after (seen c.self.inside) c.open_job.new.self.entries c.push_reserved.new.self.items)
    c.in_ok-job.job
took c is =
    let x = c.self.inside in
    let k = seen x in
    let s = c.self.invariant in
    let members = c.in_ok-members.members in
    let job = c.in_ok-job.job in
    let first = c.in-Some.first.now in
    let made : IsJobFor k members first.sub job =
    subst (λ (ms : List Member). IsJobFor k ms first.sub job) c.as_slice.ensures
    (subst (λ (j : Kept). IsJobFor j c.as_slice.result.now first.sub job) (sym c.self.view_is) c.in_ok-job.ensures) in
    let asks = asks_for k _ members first job (is_run k.meta s.history) s.stands.represents is c.in-Some.ensures.value
    made in
    subst (λ (k' : Kept). TookJob k k' job)
    (takes_as k members job.number job.version c.open_job.new.self.entries c.push_reserved.new.self.items made.number
    made.version c.open_job.ensures.entries
    (c.push_reserved.ensures.items
    ∙ ap (λ (jobs : List OpenJob).
    jobs ++ record { number = job.number; version = job.version; members = members } ∷ [])
    c.in_ok-reserve.ensures.items))
    (took_job c.results.ensures.planned c.plans.ensures.fit c.pollers.ensures.plan k members job (is_run k.meta)
    (jobs_apart k.meta) (takes_counted k.meta)
    (subst (λ (catalog : Catalog). Fits catalog x.snapshot.tables) s.catalog c.fits.ensures) asks is
    (some_first members first c.in-Some.ensures.value) s.history s.stands)

pub invariant_of-self-2 : goal.invariant_of-self-2
invariant_of-self-2 c =
    let x = c.self.inside in
    let s = c.self.invariant in
    let at = goal.at.invariant_of-self-2 c in
    let t = took at.After-push_reserved (is_batch at.After-get) in
    record {
      catalog = s.catalog;
      promised = s.promised;
      ready = c.open_job.ensures.ready ∙ s.ready;
      version = omega (arith, s.version);
      subscribed = omega (arith, s.subscribed);
      jobs_made = omega (arith, s.jobs_made);
      history = s.history ++ Take ∷ [];
      stands = (t.does.happened s.history s.stands).stands;
    }

pub returns-clause-reply : goal.returns-clause-reply
returns-clause-reply c =
    subst (λ (k : Kept). TookJob k (after (seen c.self.inside) c.open_job.new.self.entries
    c.push_reserved.new.self.items) c.in_ok-job.job) c.self.view_is
    (took (goal.at.returns-clause-reply c).After-push_reserved (is_batch (goal.at.returns-clause-reply c).After-get))
