-- How far a script is, and what a line does to it. This project's own.
use Rattle.std.specs.Prelude.{◌≡◌, ℕ, ◌*◌, ◌<◌, ◌≤◌, Result, Ok, Err, List, [], ◌++◌, length}
use Rattle.role_model.specs.declared.metadata.Metadata.{Metadata}
use Rattle.role_model.specs.declared.metadata.MetaFault.{MetaFault}
use Rattle.machine.specs.State.{Event}
use Rattle.machine.specs.Run.{run}
use Rattle.machine.specs.Script.{Reading, Heading, Running, LineOutcome, Went, Faulty, limit}
use Rattle.hub_model.specs.declared.job.Job.{Job}
use Rattle.hub_model.specs.Kept.{Kept}
use Rattle.hub_model.specs.Stands.{StandsFor}
use Rattle.subs_run.specs.declared.line_result.LineResult.{LineResult}
use Rattle.subs_run.specs.declared.line_result.LineResult.TheVariants as line_result
use Rattle.subs_run.specs.declared.progress.Progress.{Progress}
use Rattle.subs_run.specs.declared.progress.Progress.TheVariants as progress
use Rattle.subs_run.specs.Events.{RunsOn}

-- Each line so far has added at most one subscription, and no more than so many events: one, and two for each
-- subscription.
pub record IsFew (k : Kept) (lines_read : ℕ) : Type 0 where
  pub few : k.subscribed ≤ lines_read
  pub bounded : k.events ≤ lines_read * 134217729

-- the hub stands for some history, after which the reading goes on
pub record IsRunning (k : Kept) (jobs : List Job) (reading : Reading) : Type 0 where
  pub history : List Event
  pub runs : RunsOn k jobs history
  pub is : reading ≡ Running k.meta (run k.meta history)

-- what the progress stands for
abbrev pub StandsAt : Progress → Reading → Type 0
StandsAt (progress.Heading metadata) reading = reading ≡ Heading metadata.items
StandsAt (progress.Running runner) reading = IsRunning runner.hub runner.jobs.items reading

-- it stands for something, after so many lines
abbrev pub HasStand : Progress → ℕ → Type 0
HasStand (progress.Heading metadata) lines_read = Unit {0}
HasStand (progress.Running runner) lines_read =
    IsFew runner.hub lines_read × ((h : List Event) × RunsOn runner.hub runner.jobs.items h)

-- a line went as the rules say, or is at fault
abbrev pub Advances : LineResult → LineOutcome → Progress → List ℕ → List ℕ → Type 0
Advances line_result.Went (Went reading text) after before now = StandsAt after reading × (now ≡ before ++ text)
Advances line_result.Went (Faulty reason) after before now = ⊥
Advances (line_result.Faulty reason) (Went reading text) after before now = ⊥
Advances (line_result.Faulty reason) (Faulty other) after before now = other ≡ reason
Advances line_result.NoMemory took after before now = Unit {0}

-- the hub of metadata that was read, to which nothing has happened
pub record IsNew (meta : Metadata) (k : Kept) : Type 0 where
  pub meta_is : k.meta ≡ meta
  pub stands : StandsFor k []
  pub events : k.events ≡ 0

-- metadata without a fault begins such a hub
abbrev pub Begins : Result Metadata MetaFault → Kept → Type 0
Begins (Ok meta) k = IsNew meta k
Begins (Err fault) k = ⊥

-- it went, and then this holds
abbrev pub IfWent : LineResult → Type 0 → Type 0
IfWent line_result.Went p = p
IfWent (line_result.Faulty reason) p = ⊥
IfWent line_result.NoMemory p = Unit {0}

-- where it went, this holds
abbrev pub OnWent : LineResult → Type 0 → Type 0
OnWent line_result.Went p = p
OnWent (line_result.Faulty reason) p = Unit {0}
OnWent line_result.NoMemory p = Unit {0}
