-- Laws over whole runs of jobs and of the subscriptions that are their members: what each take gave, what stays as it
-- was while a job is open, and what of a state takes and publications go by. This project's own.
use Rattle.std.specs.Prelude.{
  ◌≡◌,
  ◌≢◌,
  ◌≤◌,
  ◌<◌,
  ℕ,
  ◌-◌,
  Bool,
  true,
  ◌||◌,
  ⊤,
  is_some,
  Some,
  List,
  [],
  ◌∷◌,
  ◌++◌,
  length,
  filter,
  slice_get,
}
use Rattle.std.specs.List.{list_any, AllByRecursion}
use Rattle.data_model.specs.declared.transaction.TxChange.{TxChange}
use Rattle.data_model.specs.Transactions.{snapshot}
use Rattle.role_model.specs.declared.metadata.Metadata.{Metadata}
use Rattle.role_model.specs.MetadataMeaning.{IsMetadata}
use Rattle.machine.specs.State.{
  State,
  Subscription,
  Member,
  Job,
  Event,
  Tick,
  Take,
  Publish,
  Abandon,
  Reply,
  Taken,
  Step,
  opening,
}
use Rattle.machine.specs.Batches.{subscription_at, is_member}
use Rattle.machine.specs.Publication.{database_of}
use Rattle.machine.specs.Run.{happens, run}
use Rattle.machine.specs.Transcript.{poll}
use Rattle.run_laws.specs.Laws.{EachPair}

-- Takings

-- what one take gave, and the state in which it was taken
pub record Taking : Type 0 where
  pub state : State
  pub job : Job

abbrev pub taking_of : State → Reply → List Taking
taking_of s (Taken job) = record { state = s; job = job } ∷ []
taking_of s _ = []

abbrev pub takings_from : Metadata → State → List Event → List Taking
takings_from meta s [] = []
takings_from meta s (e ∷ es) = taking_of s (happens meta s e).reply ++ takings_from meta (happens meta s e).state es

-- all takes of a run, in order; the job of number n is that of the nth
abbrev pub takings : Metadata → List Event → List Taking
takings meta h = takings_from meta opening h

-- each take that gives a job counts
abbrev pub JobsAreCounted : Metadata → Type 0
JobsAreCounted meta = (h : List Event) → (run meta h).jobs_made ≡ length (takings meta h)

abbrev pub ComesBefore : Job → Job → Type 0
ComesBefore i j = i.number < j.number

-- Open jobs stand in the order of their numbers, which are those of takes, from 1 on. No version is one to come.
pub record StandInOrder (s : State) : Type 0 where
  pub order : EachPair ComesBefore s.jobs
  pub numbers : AllByRecursion (λ job. (1 ≤ job.number) × (job.number ≤ s.jobs_made)) s.jobs
  pub versions : AllByRecursion (λ job. job.version ≤ length s.transactions) s.jobs

abbrev pub JobsAreNumbered : Metadata → Type 0
JobsAreNumbered meta = (h : List Event) → StandInOrder (run meta h)

-- an open job is what the take of its number gave
abbrev pub OpenJobsWereTaken : Metadata → Type 0
OpenJobsWereTaken meta =
    (h : List Event) →
    AllByRecursion (λ job. (t : Taking) × (slice_get (takings meta h) (job.number - 1) ≡ Some t) × (t.job ≡ job))
    (run meta h).jobs

-- what a take gave stays what it gave
abbrev pub TakingsStay : Metadata → Type 0
TakingsStay meta =
    (h more : List Event) (i : ℕ) (t : Taking) → slice_get (takings meta h) i ≡ Some t →
    slice_get (takings meta (h ++ more)) i ≡ Some t

-- While a job is open

-- one subscription, at two times: what it asks for, for whom, and where it stands
pub record Stays (before after : Subscription) : Type 0 where
  pub number : before.number ≡ after.number
  pub connection : before.connection ≡ after.connection
  pub id : before.id ≡ after.id
  pub query : before.query ≡ after.query
  pub cursor : before.cursor ≡ after.cursor

-- there is a subscription of this number in both states, and it stayed
pub record StaysIn (number : ℕ) (s t : State) : Type 0 where
  pub before : Subscription
  pub after : Subscription
  pub was : subscription_at number s.subscriptions ≡ Some before
  pub is : subscription_at number t.subscriptions ≡ Some after
  pub stays : Stays before after

-- the members of an open job stand where they stood when it was taken: only its own publication moves them
abbrev pub MembersStay : Metadata → Type 0
MembersStay meta =
    (h : List Event) → AllByRecursion (λ job. (t : Taking) → slice_get (takings meta h) (job.number - 1) ≡ Some t →
    AllByRecursion (λ m. StaysIn m.subscription t.state (run meta h)) job.members) (run meta h).jobs

-- the database of an open job is that of its take
abbrev pub DatabasesStay : Metadata → Type 0
DatabasesStay meta =
    (h : List Event) → AllByRecursion (λ job. (t : Taking) → slice_get (takings meta h) (job.number - 1) ≡ Some t →
    database_of meta t.state job ≡ database_of meta (run meta h) job) (run meta h).jobs

-- the snapshot of a version stays what it is as further transactions are accepted
abbrev pub SnapshotsStay : Metadata → Type 0
SnapshotsStay meta =
    ((h more : List Event) (version : ℕ) → version ≤ length (run meta h).transactions →
    snapshot meta.catalog (run meta (h ++ more)).transactions version
    ≡ snapshot meta.catalog (run meta h).transactions version)
    × ((transactions more : List (List TxChange)) (version : ℕ) → version ≤ length transactions →
    snapshot meta.catalog (transactions ++ more) version ≡ snapshot meta.catalog transactions version)

-- Numbers in order

abbrev pub IsOfLive : State → ℕ → Type 0
IsOfLive s number = (sub : Subscription) × (subscription_at number s.subscriptions ≡ Some sub) × (sub.live ≡ true)

-- the due numbers ascend, and each is that of a live subscription
abbrev pub DueAscend : Metadata → Type 0
DueAscend meta =
    (h : List Event) → EachPair ◌<◌ (run meta h).due × AllByRecursion (IsOfLive (run meta h)) (run meta h).due

abbrev pub IsBelow : Member → Member → Type 0
IsBelow m n = m.subscription < n.subscription

-- the members of a job stand in the order of their subscriptions, which are known, and the places of cohorts are from 1
pub record MembersStand (s : State) (job : Job) : Type 0 where
  pub order : EachPair IsBelow job.members
  pub known : AllByRecursion (λ m. is_some (subscription_at m.subscription s.subscriptions) ≡ true) job.members
  pub cohorts : AllByRecursion (λ m. 1 ≤ m.cohort) job.members

abbrev pub MembersAscend : Metadata → Type 0
MembersAscend meta = (h : List Event) → AllByRecursion (MembersStand (run meta h)) (run meta h).jobs

-- no two live subscriptions of one connection have one id
abbrev pub HaveOtherIds : Subscription → Subscription → Type 0
HaveOtherIds a b = a.live ≡ true → b.live ≡ true → a.connection ≡ b.connection → a.id ≢ b.id

abbrev pub LiveIdsDiffer : Metadata → Type 0
LiveIdsDiffer meta = (h : List Event) → EachPair HaveOtherIds (run meta h).subscriptions

-- What is enough to know

-- a subscription that is live or a member of an open job
abbrev pub is_kept : State → Subscription → Bool
is_kept s sub = sub.live || list_any (is_member sub.number) s.jobs

-- the state without the subscriptions of which no further event of jobs asks anything
abbrev pub kept : State → State
kept s = record s { subscriptions = filter (is_kept s) s.subscriptions }

-- a tick, a take, and the publication or the end of a job
abbrev pub IsOfJobs : Event → Type 0
IsOfJobs Tick = ⊤
IsOfJobs Take = ⊤
IsOfJobs (Publish job) = ⊤
IsOfJobs (Abandon job) = ⊤
IsOfJobs _ = ⊥

-- two steps show the same, and leave the same but for subscriptions that aren't kept
pub record AreAlike (a b : Step) : Type 0 where
  pub reply : a.reply ≡ b.reply
  pub queued : a.queued ≡ b.queued
  pub closed : a.closed ≡ b.closed
  pub due : a.state.due ≡ b.state.due
  pub jobs : a.state.jobs ≡ b.state.jobs
  pub kept : kept a.state ≡ kept b.state

-- events of jobs do the same where other subscriptions are left out
abbrev pub KeptAreEnough : Metadata → Type 0
KeptAreEnough meta =
    (h : List Event) (e : Event) → IsOfJobs e →
    AreAlike (happens meta (kept (run meta h)) e) (happens meta (run meta h) e)

-- Polls

-- after a poll nobody is due, where a batch has room for a cohort
abbrev pub PollsEndIdle : Metadata → Type 0
PollsEndIdle meta = 1 ≤ meta.batch_size → (h : List Event) → (poll meta (run meta h)).state.due ≡ []

-- as all metadata has that was read
abbrev pub BatchesHaveRoom : Metadata → Type 0
BatchesHaveRoom meta = IsMetadata meta → 1 ≤ meta.batch_size
