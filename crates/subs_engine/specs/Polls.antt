-- What one poll adds to the calls of its pass. This project's own.
use Rattle.std.specs.Prelude.{◌≡◌, ℕ, ◌+◌, ◌^◌, ◌≤◌, ◌⊎◌, List, [], ◌∷◌, ◌++◌, length, Result, Ok, Err}
use Rattle.history_lock.specs.PassViews.{PassView}
use Rattle.history_lock.specs.History.{events}
use Rattle.role_model.specs.declared.metadata.Metadata.{Metadata}
use Rattle.plan_model.specs.Reads.{reads}
use Rattle.machine.specs.declared.queued.Queued.{Queued}
use Rattle.machine.specs.State.{State, Event, Take, Publish, Abandon, Skip, Reply, Nobody, Taken, Published, NotOpen}
use Rattle.machine.specs.State.{Abandoned, Skipped}
use Rattle.hub_model.specs.declared.job.Job.{Job}
use Rattle.hub_model.specs.Jobs.{job_of}
use Rattle.subs_engine.specs.Calls.{Answer, answer, plain, Call, call, Did}
use Rattle.subs_engine.specs.Jobs.{IsJob}
use Rattle.subs_engine.specs.declared.engine.TakeFault.{TakeFault}
use Rattle.subs_engine.specs.declared.engine.TakeFault.TheVariants as fault
use Rattle.subs_engine.specs.declared.poll.Polled.{Polled}
use Rattle.subs_engine.specs.declared.poll.Polled.TheVariants as polled

-- one call of this event, with this answer
abbrev pub IsOne : List Call → Event → Answer → Type 0
IsOne made e a = (s : State) × (made ≡ call s e a ∷ [])

-- the job is abandoned, or all turns were taken; `len` is how many entries were seen then
abbrev pub Abandons : ℕ → ℕ → List Call → Type 0
Abandons len j made =
    ((made ≡ []) × (len ≡ 2 ^ 62)) ⊎ (IsOne made (Abandon j) (plain Abandoned) ⊎ IsOne made (Abandon j) (plain NotOpen))

-- the job is abandoned, after a publication that found no memory or at once
pub record GivesUp (len j : ℕ) (made : List Call) : Type 0 where
  pub skips : List Call
  pub ends : List Call
  pub whole : made ≡ skips ++ ends
  pub skipped : (skips ≡ []) ⊎ IsOne skips Skip (plain Skipped)
  pub abandons : Abandons len j ends

-- the job is published, and some texts are queued
pub record PublishesJob (j : ℕ) (made : List Call) : Type 0 where
  pub version : ℕ
  pub queued : List Queued
  pub is : IsOne made (Publish j) (answer (Published version) queued [])

-- what comes after the take of a job
abbrev pub Finishes : ℕ → ℕ → Result Polled TakeFault → List Call → Type 0
Finishes len j (Ok polled.Nothing) made = ⊥
Finishes len j (Ok (polled.Published k)) made = (k ≡ j) × PublishesJob j made
Finishes len j (Ok (polled.NotOpen k)) made = (k ≡ j) × IsOne made (Publish j) (plain NotOpen)
Finishes len j (Err fault.Spent) made = (made ≡ []) × (len ≡ 2 ^ 62)
Finishes len j (Err fault.NoMemory) made = GivesUp len j made

-- no job was taken
abbrev pub TakesNone : ℕ → Result Polled TakeFault → List Call → Type 0
TakesNone len (Ok polled.Nothing) made = IsOne made Take (plain Nobody)
TakesNone len (Ok (polled.Published k)) made = ⊥
TakesNone len (Ok (polled.NotOpen k)) made = ⊥
TakesNone len (Err fault.Spent) made = (made ≡ []) × (len ≡ 2 ^ 62)
TakesNone len (Err fault.NoMemory) made = IsOne made Skip (plain Skipped)

-- A job was taken and finished. No more rows were read than its plan reads by one reading of each of its tables.
pub record TakesOne (p q : PassView Event Metadata) (r : Result Polled TakeFault) (made : List Call)
    (steps steps' : ℕ) : Type 0 where
  pub job : Job
  pub is_job : IsJob p.basis job (events q.seen)
  pub state : State
  pub more : List Call
  pub whole : made ≡ call state Take (plain (Taken (job_of job))) ∷ more
  pub finishes : Finishes (length q.seen) job.number r more
  pub reads : steps' ≤ steps + reads job.plan job.snapshot.tables

-- a poll takes no job, and reads nothing, or takes one and finishes it
pub record PollsOnce (p q : PassView Event Metadata) (r : Result Polled TakeFault) (steps steps' : ℕ) : Type 0 where
  pub made : List Call
  pub did : Did p q made
  pub polls : (TakesNone (length q.seen) r made × (steps' ≤ steps)) ⊎ TakesOne p q r made steps steps'
