-- What the functions of a worker do, part by part. This project's own.
use Rattle.std.specs.Prelude.{◌≡◌, ℕ, ◌+◌, ◌^◌, ◌≤◌, Bool, true, false, Option, Some, None, Result, Ok, Err, List, []}
use Rattle.std.specs.Prelude.{◌∷◌, ◌++◌, length, map, sum_by}
use Rattle.std.specs.List.{AllByRecursion}
use Rattle.role_model.specs.declared.metadata.Metadata.{Metadata}
use Rattle.machine.specs.State.{Event, Tick, Ticked}
use Rattle.history_lock.specs.PassViews.{PassView}
use Rattle.history_lock.specs.History.{events}
use Rattle.hub_model.specs.declared.job.Job.{Job}
use Rattle.hub_model.specs.Jobs.{job_of}
use Rattle.subs_engine.specs.Calls.{Call, plain, Did}
use Rattle.subs_engine.specs.Jobs.{IsJob}
use Rattle.subs_engine.specs.Polls.{IsOne}
use Rattle.subs_engine.specs.declared.engine.TakeFault.{TakeFault}
use Rattle.subs_engine.specs.declared.engine.TakeFault.TheVariants as fault
use Rattle.polling_worker.specs.Ticks.{is_tick, ticks_in, nobodies, taken, InTurn, ticked_after, counts_at, last_by}
use Rattle.polling_worker.specs.Ticks.{last_after, bit}
use Rattle.polling_worker.specs.Works.{Tells, AreWorks, parts_of, reads_of, EndsNobody, IsTimely}

-- ---- polls

-- the jobs that a pass took between two moments, and the most rows that were read for them
pub record Takes (p q : PassView Event Metadata) (made : List Call) (steps steps' : ℕ) : Type 0 where
  pub jobs : List Job
  pub are_jobs : AllByRecursion (λ job. IsJob p.basis job (events q.seen)) jobs
  pub taken : map job_of jobs ≡ taken made
  pub reads : steps' ≤ steps + sum_by reads_of jobs

-- some polls, one after the other, of which so many found nobody
pub record Polls (p q : PassView Event Metadata) (steps steps' : ℕ) (found : ℕ) : Type 0 where
  pub made : List Call
  pub did : Did p q made
  pub parts : List (List Call)
  pub whole : made ≡ parts_of parts
  pub each : (ticks : Bool) → AreWorks ticks p q parts
  pub order : (ticked : Bool) → InTurn ticked made
  pub no_tick : ticks_in made ≡ 0
  pub nobody : nobodies made ≡ found
  pub takes : Takes p q made steps steps'

-- polls until nobody is due
pub record PollsOut (p q : PassView Event Metadata) (steps steps' : ℕ) : Type 0 where
  pub polls : Polls p q steps steps' 1
  pub nobody : EndsNobody polls.made

-- the turns were spent, or memory was wanting
abbrev pub IsCaused : (turns : ℕ) → TakeFault → Type 0
IsCaused turns fault.Spent = turns ≡ 2 ^ 62
IsCaused turns fault.NoMemory = Unit {0}

-- or until a fault
pub record PollsToFault (p q : PassView Event Metadata) (steps steps' : ℕ) (f : TakeFault) : Type 0 where
  pub polls : Polls p q steps steps' 0
  pub caused : IsCaused (length q.seen) f

abbrev pub PollsAll : PassView Event Metadata → PassView Event Metadata → ℕ → ℕ → Result (Unit {0}) TakeFault → Type 0
PollsAll p q steps steps' (Ok done) = PollsOut p q steps steps'
PollsAll p q steps steps' (Err f) = PollsToFault p q steps steps' f

-- ---- rounds

-- the first call is a tick
pub record StartsTick (made : List Call) : Type 0 where
  pub tick : Call
  pub rest : List Call
  pub whole : made ≡ tick ∷ rest
  pub is_tick : is_tick tick ≡ true

-- nothing was done before a time counted, and the first call is a tick since then
abbrev pub IsBegun : (last : Option ℕ) → List Call → Type 0
IsBegun None made = made ≡ []
IsBegun (Some last) made = StartsTick made

-- a worker that makes ticks asked the clock once, and made a tick where that time counts
pub record AsksOnce (refetch : ℕ) (last last' : Option ℕ) (made : List Call) (times : List ℕ) : Type 0 where
  pub time : ℕ
  pub once : times ≡ time ∷ []
  pub ticked : ticks_in made ≡ bit (counts_at refetch last time)
  pub later : last' ≡ last_by refetch last time
  pub begun : (before : List Call) → IsBegun last before → IsBegun last' (before ++ made)

-- how a round begins: with a tick, or with nothing
pub record Begins (ticks : Bool) (refetch : ℕ) (p q : PassView Event Metadata) (t t' : List ℕ → Type 0)
    (last last' : Option ℕ) : Type 0 where
  pub made : List Call
  pub times : List ℕ
  pub did : Did p q made
  pub tells : Tells t t' times
  pub parts : List (List Call)
  pub whole : made ≡ parts_of parts
  pub each : AreWorks ticks p q parts
  pub order : InTurn false made
  pub nobody : nobodies made ≡ 0
  pub none : taken made ≡ []
  pub asks : ticks ≡ true → AsksOnce refetch last last' made times

-- or with a tick that wasn't made, since all turns were taken
pub record BeginsToFault (ticks : Bool) (p q : PassView Event Metadata) (t t' : List ℕ → Type 0)
    (f : TakeFault) : Type 0 where
  pub times : List ℕ
  pub did : Did p q []
  pub tells : Tells t t' times
  pub ticking : ticks ≡ true
  pub spent : f ≡ fault.Spent
  pub turns : length q.seen ≡ 2 ^ 62

abbrev pub BeginsAs : Bool → ℕ → PassView Event Metadata → PassView Event Metadata → (List ℕ → Type 0) →
    (List ℕ → Type 0) → Option ℕ → Option ℕ → Result (Unit {0}) TakeFault → Type 0
BeginsAs ticks refetch p q t t' last last' (Ok done) = Begins ticks refetch p q t t' last last'
BeginsAs ticks refetch p q t t' last last' (Err f) = BeginsToFault ticks p q t t' f

-- whole rounds, after which the last time that counted is this one
pub record Rounds (ticks : Bool) (refetch : ℕ) (p q : PassView Event Metadata) (t t' : List ℕ → Type 0)
    (last : Option ℕ) (steps steps' : ℕ) : Type 0 where
  pub made : List Call
  pub times : List ℕ
  pub did : Did p q made
  pub tells : Tells t t' times
  pub parts : List (List Call)
  pub whole : made ≡ parts_of parts
  pub each : AreWorks ticks p q parts
  pub order : InTurn false made
  pub after : ticked_after false made ≡ false
  pub takes : Takes p q made steps steps'
  pub begun : ticks ≡ true → IsBegun last made
  pub timely : ticks ≡ true → IsTimely refetch made times × (last ≡ last_after refetch None times)

-- a tick, or the turns were spent
pub record TicksNow (p q : PassView Event Metadata) : Type 0 where
  pub made : List Call
  pub count : ℕ
  pub one : IsOne made Tick (plain (Ticked count))
  pub did : Did p q made

abbrev pub TicksOnce : PassView Event Metadata → PassView Event Metadata → Result (Unit {0}) TakeFault → Type 0
TicksOnce p q (Ok done) = TicksNow p q
TicksOnce p q (Err fault.Spent) = Did p q [] × (length q.seen ≡ 2 ^ 62)
TicksOnce p q (Err fault.NoMemory) = ⊥
