-- The answers of the take of an open job are its members' own results: while it is open, its database and what they ask
-- for stay.
use Rattle.std.proofs.Common.{◌≡◌, ◌∙◌, sym, ap, subst, ℕ, ◌-◌, Some, List, [], ◌∷◌, slice_get, true}
use Rattle.std.proofs.lemmas.Bool.{eqb-true}
use Rattle.std.proofs.lemmas.Option.{same_Some}
use Rattle.std.specs.Option.{option_map}
use Rattle.std.specs.List.{AllByRecursion, filter_map}
use Rattle.data_model.specs.Rows.{Database}
use Rattle.role_model.specs.declared.metadata.Metadata.{Metadata}
use Rattle.plan_model.specs.Outcomes.{Outcome}
use Rattle.query_model.specs.Results.{result}
use Rattle.stream_cursor.specs.Moves.{AreStreams, AreApart}
use Rattle.machine.specs.State as machine
use Rattle.machine.specs.State.{State, Subscription, Event, Publish, Published}
use Rattle.machine.specs.Batches.{subscription_at, is_job}
use Rattle.machine.specs.Publication.{database_of}
use Rattle.machine.specs.Run.{run}
use Rattle.run_laws.specs.Takings.{Taking, takings}
use Rattle.hub_model.specs.declared.job.OpenJob.{OpenJob}
use Rattle.hub_model.specs.declared.job.Answers.{Answers}
use Rattle.hub_model.specs.Kept.{Kept, open_job}
use Rattle.hub_model.specs.Jobs.{AreResults, result_for, AnswersOf}
use Rattle.hub_model.specs.Stands.{StandsFor, Happened}
use Rattle.hub_model.specs.Steps.{job_at}
use Rattle.hub_model.specs.Tellings.{tellings, move_of, queued_all}
use Rattle.hub_model.proofs.Items.{Among, found_among}
use Rattle.hub_model.proofs.Reached.{EachIsRun}
use Rattle.hub_model.proofs.JobFacts.{JobsApart}
use Rattle.hub_model.proofs.Abandons.{are_open, job_is}
use Rattle.hub_model.proofs.Apart.{tellings_apart, moves_apart, Apart}
use Rattle.hub_model.proofs.Streams.{moves_are_streams}
use Rattle.hub_model.proofs.Publishes.{published, ascending_apart, AreOwnResults, publishes_own}

-- ---- what stays while a job is open

-- the subscription of a number asks for the same in both states
pub record AsksAlike (number : ℕ) (s t : State) : Type 0 where
  pub before : Subscription
  pub after : Subscription
  pub was : subscription_at number s.subscriptions ≡ Some before
  pub is : subscription_at number t.subscriptions ≡ Some after
  pub query : before.query ≡ after.query
  pub cursor : before.cursor ≡ after.cursor

-- A job is that of its taking, and its database and what its members ask for are those of then.
pub record JobStays (meta : Metadata) (h : List Event) (job : machine.Job) : Type 0 where
  pub taking : Taking
  pub taken : slice_get (takings meta h) (job.number - 1) ≡ Some taking
  pub is : taking.job ≡ job
  pub database : database_of meta taking.state job ≡ database_of meta (run meta h) job
  pub members : AllByRecursion (λ m. AsksAlike m.subscription taking.state (run meta h)) job.members

-- so is each open job of every run
abbrev pub OpenJobsStay : Metadata → Type 0
OpenJobsStay meta = (h : List Event) (job : machine.Job) → Among job (run meta h).jobs → JobStays meta h job

result_alike : (meta : Metadata) (db : Database) (s t : State) (m : machine.Member) →
    AsksAlike m.subscription s t → result_for meta db s.subscriptions m ≡ result_for meta db t.subscriptions m
result_alike meta db s t m same =
    ap (option_map (λ (sub : Subscription). result meta sub.query sub.cursor db)) same.was
    ∙ (λ i. Some (result meta (same.query i) (same.cursor i) db))
    ∙ ap (option_map (λ (sub : Subscription). result meta sub.query sub.cursor db)) (sym same.is)

results_alike : (meta : Metadata) (db : Database) (s t : State) (outcomes : List Outcome) (ms : List machine.Member) →
    AllByRecursion (λ (m : machine.Member). AsksAlike m.subscription s t) ms →
    AreResults meta db s.subscriptions outcomes ms → AreResults meta db t.subscriptions outcomes ms
results_alike meta db s t outcomes [] same all = tt
results_alike meta db s t outcomes (m ∷ ms) same all =
    (all.0 ∙ result_alike meta db s t m same.0, results_alike meta db s t outcomes ms same.1 all.1)

-- ---- the answers of an open job

module _ (k : Kept) (answers : Answers) (job : OpenJob) (at : job_at answers.number k ≡ Some job) (h : List Event)
    (st : StandsFor k h) where
  abbrev now : State
  now = run k.meta h

  found : Among (open_job job) now.jobs × (is_job answers.number (open_job job) ≡ true)
  found =
      found_among (is_job answers.number) now.jobs (open_job job)
      (job_is k now answers.number st.represents ∙ ap (option_map open_job) at)

  -- No two tellings of an open job are of one subscription, and so no two moves.
  pub told_apart : EachIsRun k.meta → Apart (λ t. t.sub) (tellings k answers.outcomes job.members)
  told_apart runs =
      tellings_apart k answers.outcomes job.members
      (ascending_apart job.members ((runs h).members_ascend (open_job job) found.0))

  pub moved_apart : EachIsRun k.meta → AreApart (filter_map move_of (tellings k answers.outcomes job.members))
  moved_apart runs = moves_apart (tellings k answers.outcomes job.members) (told_apart runs)

  module _ (stay : OpenJobsStay k.meta) (a : AnswersOf k.meta answers h) where
    stays : JobStays k.meta h (open_job job)
    stays = stay h (open_job job) found.0

    same_taking : stays.taking ≡ a.taking
    same_taking =
        same_Some stays.taking a.taking
        (sym stays.taken
        ∙ ap (λ (n : ℕ). slice_get (takings k.meta h) (n - 1)) (eqb-true job.number answers.number found.1)
        ∙ a.taken)

    pub same_job : a.taking.job ≡ open_job job
    same_job = ap (λ (t : Taking). t.job) (sym same_taking) ∙ stays.is

    -- they are the members' own results now
    pub own_results : AreOwnResults k now answers job
    own_results =
        let at_take : AreResults k.meta (database_of k.meta stays.taking.state stays.taking.job)
        stays.taking.state.subscriptions answers.outcomes stays.taking.job.members =
        subst (λ (t : Taking). AreResults k.meta (database_of k.meta t.state t.job) t.state.subscriptions
        answers.outcomes t.job.members) (sym same_taking) a.results in
        let of_job : AreResults k.meta (database_of k.meta stays.taking.state (open_job job))
        stays.taking.state.subscriptions answers.outcomes (open_job job).members =
        subst (λ (j : machine.Job). AreResults k.meta (database_of k.meta stays.taking.state j)
        stays.taking.state.subscriptions answers.outcomes j.members) stays.is at_take in
        results_alike k.meta (database_of k.meta now (open_job job)) stays.taking.state now answers.outcomes
        (open_job job).members stays.members
        (subst (λ (db : Database). AreResults k.meta db stays.taking.state.subscriptions answers.outcomes
        (open_job job).members) stays.database of_job)

    -- The publication of an open job's answers.
    pub publishes : EachIsRun k.meta → ((h : List Event) → JobsApart (run k.meta h)) →
        Happened k (published answers.number answers.outcomes job k) h (Publish answers.number)
        (Published a.taking.job.version) (queued_all (tellings k answers.outcomes job.members)) []
    publishes runs apart =
        subst (λ (version : ℕ). Happened k (published answers.number answers.outcomes job k) h (Publish answers.number)
        (Published version) (queued_all (tellings k answers.outcomes job.members)) [])
        (ap (λ (j : machine.Job). j.version) (sym same_job))
        (publishes_own k answers job at h st (runs h) (are_open now (runs h) (apart h)) own_results)

    -- Its moves are those of streams of the map.
    pub moves_streams : EachIsRun k.meta →
        AreStreams (filter_map move_of (tellings k answers.outcomes job.members)) k.entries
    moves_streams runs =
        moves_are_streams k now (database_of k.meta now (open_job job)) answers.outcomes job.members st.represents
        (runs h).numbered own_results
