-- What a worker did, from its first poll to its last. This project's own.
use Rattle.std.specs.Prelude.{◌≡◌, ℕ, ◌+◌, ◌^◌, ◌≤◌, ◌⊎◌, Bool, true, false, None, Result, Ok, Err, List, [], ◌∷◌, ◌++◌}
use Rattle.std.specs.Prelude.{length, map, sum_by}
use Rattle.std.specs.List.{AllByRecursion, flat_map}
use Rattle.plan_model.specs.Reads.{reads}
use Rattle.role_model.specs.declared.metadata.Metadata.{Metadata}
use Rattle.machine.specs.State.{Event, Tick, Take, Nobody, Ticked}
use Rattle.history_lock.specs.PassViews.{PassView}
use Rattle.history_lock.specs.History.{events}
use Rattle.hub_model.specs.declared.job.Job.{Job}
use Rattle.hub_model.specs.Jobs.{job_of}
use Rattle.subs_engine.specs.Calls.{Call, plain, Did}
use Rattle.subs_engine.specs.Jobs.{IsJob}
use Rattle.subs_engine.specs.Polls.{IsOne, PollsOnce}
use Rattle.subs_engine.specs.declared.engine.TakeFault.{TakeFault}
use Rattle.subs_engine.specs.declared.engine.TakeFault.TheVariants as fault
use Rattle.subs_engine.specs.declared.poll.Polled.{Polled}
use Rattle.polling_worker.specs.Ticks.{ticks_in, nobodies, taken, InTurn, TicksFirst, counted}

-- between two moments a clock gave these times, where it tells them
abbrev pub Tells : (List ℕ → Type 0) → (List ℕ → Type 0) → List ℕ → Type 0
Tells t t' times = (before : List ℕ) → t before → t' (before ++ times)

-- between two moments there was a tick, or all turns were taken
pub record IsTick (p q : PassView Event Metadata) (calls : List Call) : Type 0 where
  pub did : Did p q calls
  pub is : ((n : ℕ) × IsOne calls Tick (plain (Ticked n))) ⊎ ((calls ≡ []) × (length q.seen ≡ 2 ^ 62))

-- between two moments there was one poll
pub record IsPoll (p q : PassView Event Metadata) (calls : List Call) : Type 0 where
  pub result : Result Polled TakeFault
  pub steps : ℕ
  pub steps' : ℕ
  pub poll : PollsOnce p q result steps steps'
  pub whole : calls ≡ poll.made

-- a tick, where the worker makes them, or a poll
abbrev pub IsWork : (ticks : Bool) → PassView Event Metadata → PassView Event Metadata → List Call → Type 0
IsWork ticks p q calls = ((ticks ≡ true) × IsTick p q calls) ⊎ IsPoll p q calls

-- between two moments there was nothing but these, one after the other
abbrev pub AreWorks : (ticks : Bool) → PassView Event Metadata → PassView Event Metadata → List (List Call) → Type 0
AreWorks ticks p q [] = q ≡ p
AreWorks ticks p q (part ∷ parts) =
    (m : PassView Event Metadata) × IsWork ticks p m part × AreWorks ticks m q parts

-- the most rows that are read for a job
abbrev pub reads_of : Job → ℕ
reads_of job = reads job.plan job.snapshot.tables

abbrev pub parts_of : List (List Call) → List Call
parts_of parts = flat_map (λ (part : List Call). part) parts

-- the last call is a take that found nobody
pub record EndsNobody (made : List Call) : Type 0 where
  pub front : List Call
  pub last : List Call
  pub whole : made ≡ front ++ last
  pub nobody : IsOne last Take (plain Nobody)

-- there are as many times as takes that found nobody, and as many ticks as times that count
pub record IsTimely (refetch : ℕ) (made : List Call) (times : List ℕ) : Type 0 where
  pub rounds : length times ≡ nobodies made
  pub ticks : ticks_in made ≡ counted refetch None times

-- how a worker ends
abbrev pub EndsBy : {S : Type 0} → (ticks : Bool) → (refetch turns : ℕ) → List Call → List ℕ → Result S TakeFault →
    Type 0
EndsBy ticks refetch turns made times (Ok stop) = EndsNobody made × (ticks ≡ true → IsTimely refetch made times)
EndsBy ticks refetch turns made times (Err fault.Spent) = turns ≡ 2 ^ 62
EndsBy ticks refetch turns made times (Err fault.NoMemory) = Unit {0}

-- What a worker did between two moments: its calls, the clock's times, and the jobs that it took.
pub record Works {S : Type 0} (ticks : Bool) (refetch : ℕ) (p q : PassView Event Metadata) (t t' : List ℕ → Type 0)
    (steps steps' : ℕ) (result : Result S TakeFault) : Type 0 where
  pub made : List Call
  pub times : List ℕ
  pub jobs : List Job
  pub did : Did p q made
  pub tells : Tells t t' times
  -- the calls are ticks, where it makes them, and those of its polls
  pub parts : List (List Call)
  pub whole : made ≡ parts_of parts
  pub each : AreWorks ticks p q parts
  -- it makes a tick first, and right after a tick it takes
  pub first : ticks ≡ true → TicksFirst made
  pub order : InTurn false made
  -- it read no more rows than its jobs need, each at its version
  pub are_jobs : AllByRecursion (λ job. IsJob p.basis job (events q.seen)) jobs
  pub taken : map job_of jobs ≡ taken made
  pub reads : steps' ≤ steps + sum_by reads_of jobs
  -- how it ends
  pub ends : EndsBy ticks refetch (length q.seen) made times result
