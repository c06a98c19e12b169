-- What a line does to a hub, and to the jobs that a script took of it. This project's own.
use Rattle.std.specs.Prelude.{
  ◌≡◌,
  ℕ,
  ◌+◌,
  ◌*◌,
  ◌<◌,
  ◌≤◌,
  ◌==◌,
  ◌||◌,
  Bool,
  true,
  false,
  Option,
  Some,
  None,
  Ok,
  List,
  [],
  ◌∷◌,
  ◌++◌,
  length,
  map,
}
use Rattle.std.specs.List.{list_any, AllByRecursion}
use Rattle.std.specs.declared.result.Result.{Result}
use Rattle.scalar_val.specs.declared.text.NoMemory.{NoMemory}
use Rattle.role_model.specs.declared.metadata.Metadata.{Metadata}
use Rattle.machine.specs.State.{Event}
use Rattle.machine.specs.Run.{happens, run}
use Rattle.machine.specs.Transcript.{Reached, goes, take_and_publish}
use Rattle.machine.specs.Script.{Reading, Running, LineOutcome, Went, Faulty}
use Rattle.hub_model.specs.declared.job.Job.{Job}
use Rattle.hub_model.specs.declared.job.OpenJob.{OpenJob}
use Rattle.hub_model.specs.Kept.{Kept}
use Rattle.hub_model.specs.Jobs.{JobOf, Fits}
use Rattle.hub_model.specs.Stands.{StandsFor}
use Rattle.subs_run.specs.declared.line_result.LineResult.{LineResult}
use Rattle.subs_run.specs.declared.line_result.LineResult.TheVariants as line_result

-- ---- the jobs that a script took

-- a job is one of a take, and can be evaluated
pub record IsTaken (meta : Metadata) (h : List Event) (job : Job) : Type 0 where
  pub is_job : JobOf meta job h
  pub fits : Fits job

-- one of the jobs has this number
abbrev pub has_job : List Job → ℕ → Bool
has_job jobs number = list_any (λ (job : Job). job.number == number) jobs

-- the numbers of a hub's open jobs
abbrev pub open_numbers : Kept → List ℕ
open_numbers k = map (λ (job : OpenJob). job.number) k.jobs

-- each open job of a hub is one of these
abbrev pub HaveOpen : List Job → Kept → Type 0
HaveOpen jobs k = AllByRecursion (λ n. has_job jobs n ≡ true) (open_numbers k)

-- each but that of a number
abbrev pub HaveOthers : ℕ → List Job → Kept → Type 0
HaveOthers number jobs k = AllByRecursion (λ n. ((n == number) || has_job jobs n) ≡ true) (open_numbers k)

-- the second jobs are the first without this one
pub record AreWithout (jobs : List Job) (job : Job) (others : List Job) : Type 0 where
  pub front : List Job
  pub back : List Job
  pub whole : jobs ≡ front ++ job ∷ back
  pub rest : others ≡ front ++ back

-- the job of a number was taken out of these, where there is one
abbrev pub Removes : List Job → List Job → ℕ → Option Job → Type 0
Removes jobs others number None = (others ≡ jobs) × (has_job jobs number ≡ false)
Removes jobs others number (Some job) = AreWithout jobs job others × (job.number ≡ number)

-- after a history that the hub stands for, the jobs are those of takes, and each open job is one of them
pub record RunsOn (k : Kept) (jobs : List Job) (h : List Event) : Type 0 where
  pub stands : StandsFor k h
  pub taken : AllByRecursion (IsTaken k.meta h) jobs
  pub has_open : HaveOpen jobs k

-- ---- hubs

-- from one history a hub came to a longer one, and each job that is open now was open before
pub record IsLater (k k' : Kept) (h h' : List Event) : Type 0 where
  pub meta : k'.meta ≡ k.meta
  pub stands : StandsFor k' h'
  pub more : List Event
  pub longer : h' ≡ h ++ more
  pub was_open : (jobs : List Job) → HaveOpen jobs k → HaveOpen jobs k'

-- the hub came to a state, and the transcript on the way was appended
pub record Reaches (k k' : Kept) (h : List Event) (goal : Reached) (before after : List ℕ) : Type 0 where
  pub history : List Event
  pub later : IsLater k k' h history
  pub subscribed : k'.subscribed ≡ k.subscribed
  pub state : run k.meta history ≡ goal.state
  pub text : after ≡ before ++ goal.text

-- an event closed the job of this number, or that isn't open
pub record HasClosed (k k' : Kept) (h : List Event) (e : Event) (number : ℕ) (before after : List ℕ) : Type 0 where
  pub reaches : Reaches k k' h (goes e (happens k.meta (run k.meta h) e)) before after
  pub closes : (jobs : List Job) → HaveOthers number jobs k → HaveOpen jobs k'

-- somebody was due, and a job was taken and published; or nobody was
abbrev pub TookOne : Bool → Kept → Kept → List Event → List ℕ → List ℕ → Type 0
TookOne true k k' h before after = (0 < length (run k.meta h).due)
    × Reaches k k' h (take_and_publish k.meta (run k.meta h)) before after
TookOne false k k' h before after = ((run k.meta h).due ≡ [])
    × Reaches k k' h (record { state = run k.meta h; text = [] }) before after

-- how many events and subscriptions a line may add
pub record IsBounded (k k' : Kept) : Type 0 where
  pub few : k'.subscribed ≤ k.subscribed + 1
  pub bounded : k'.events ≤ k.events + 1 + 2 * k.subscribed

-- what a line leaves that opens no job
pub record GoesOn (k k' : Kept) (h : List Event) : Type 0 where
  pub history : List Event
  pub later : IsLater k k' h history
  pub bounds : IsBounded k k'

-- such a line went, and its transcript was appended
pub record WentOn (k k' : Kept) (h : List Event) (reading : Reading) (text before after : List ℕ) : Type 0 where
  pub on : GoesOn k k' h
  pub is : reading ≡ Running k'.meta (run k'.meta on.history)
  pub appended : after ≡ before ++ text

-- such a line went as the rules say, or is at fault
abbrev pub HubRan : LineResult → LineOutcome → Kept → Kept → List Event → List ℕ → List ℕ → Type 0
HubRan line_result.Went (Went reading text) k k' h before after = WentOn k k' h reading text before after
HubRan line_result.Went (Faulty reason) k k' h before after = ⊥
HubRan (line_result.Faulty reason) (Went reading text) k k' h before after = ⊥
HubRan (line_result.Faulty reason) (Faulty other) k k' h before after = other ≡ reason
HubRan line_result.NoMemory took k k' h before after = Unit {0}

abbrev pub HubGoesOn : LineResult → Kept → Kept → List Event → Type 0
HubGoesOn line_result.Went k k' h = GoesOn k k' h
HubGoesOn (line_result.Faulty reason) k k' h = Unit {0}
HubGoesOn line_result.NoMemory k k' h = Unit {0}

-- ---- lines

-- a line went, and its transcript was appended
pub record RanOn (k k' : Kept) (others : List Job) (reading : Reading) (text before after : List ℕ) : Type 0 where
  pub history : List Event
  pub runs : RunsOn k' others history
  pub is : reading ≡ Running k'.meta (run k'.meta history)
  pub appended : after ≡ before ++ text
  pub bounds : IsBounded k k'

-- a line went as the rules say, or is at fault
abbrev pub LineRan : LineResult → LineOutcome → Kept → Kept → List Job → List ℕ → List ℕ → Type 0
LineRan line_result.Went (Went reading text) k k' others before after = RanOn k k' others reading text before after
LineRan line_result.Went (Faulty reason) k k' others before after = ⊥
LineRan (line_result.Faulty reason) (Went reading text) k k' others before after = ⊥
LineRan (line_result.Faulty reason) (Faulty other) k k' others before after = other ≡ reason
LineRan line_result.NoMemory took k k' others before after = Unit {0}

-- A line that went leaves a hub that stands for some history, whatever the texts of clients mean.
abbrev pub Steady : LineResult → Kept → Kept → List Job → Type 0
Steady line_result.Went k k' others = IsBounded k k' × ((h : List Event) × RunsOn k' others h)
Steady (line_result.Faulty reason) k k' others = Unit {0}
Steady line_result.NoMemory k k' others = Unit {0}

abbrev pub IsWent : LineResult → Result (Unit {0}) NoMemory → Type 0
IsWent line_result.Went written = written ≡ Ok tt
IsWent (line_result.Faulty reason) written = ⊥
IsWent line_result.NoMemory written = Unit {0}
