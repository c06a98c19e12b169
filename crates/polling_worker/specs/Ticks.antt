-- Ticks and takes among a worker's calls, and which of a clock's times bring a tick. This project's own.
use Rattle.std.specs.Prelude.{◌≡◌, ℕ, ◌+◌, Bool, true, false, nat_le, Option, Some, None, List, [], ◌∷◌}
use Rattle.std.specs.List.{count_by, filter_map}
use Rattle.machine.specs.State.{Event, Tick, Take, Skip, Reply, Nobody, Taken, Job}
use Rattle.subs_engine.specs.Calls.{Call}

abbrev pub is_tick_event : Event → Bool
is_tick_event Tick = true
is_tick_event e = false

abbrev pub is_tick : Call → Bool
is_tick x = is_tick_event x.event

abbrev pub ticks_in : List Call → ℕ
ticks_in calls = count_by is_tick calls

-- a take found that nobody is due
abbrev pub is_nobody_at : Event → Reply → Bool
is_nobody_at Take Nobody = true
is_nobody_at e r = false

abbrev pub is_nobody : Call → Bool
is_nobody x = is_nobody_at x.event x.answer.reply

abbrev pub nobodies : List Call → ℕ
nobodies calls = count_by is_nobody calls

-- the job that a take gave
abbrev pub taken_at : Event → Reply → Option Job
taken_at Take (Taken job) = Some job
taken_at e r = None

abbrev pub taken_by : Call → Option Job
taken_by x = taken_at x.event x.answer.reply

-- the jobs that takes gave, in order
abbrev pub taken : List Call → List Job
taken calls = filter_map taken_by calls

-- a take, or the skip of one that found no memory
abbrev pub IsTake : Event → Type 0
IsTake Take = Unit {0}
IsTake Skip = Unit {0}
IsTake e = ⊥

-- Right after a tick comes a take or its skip, if anything. `ticked` says whether a tick came right before these calls.
abbrev pub InTurn : (ticked : Bool) → List Call → Type 0
InTurn ticked [] = Unit {0}
InTurn ticked (x ∷ xs) = (ticked ≡ true → IsTake x.event) × InTurn (is_tick x) xs

-- whether the last call is a tick
abbrev pub ticked_after : (ticked : Bool) → List Call → Bool
ticked_after ticked [] = ticked
ticked_after ticked (x ∷ xs) = ticked_after (is_tick x) xs

-- the first call is a tick, if there is one
abbrev pub TicksFirst : List Call → Type 0
TicksFirst [] = Unit {0}
TicksFirst (x ∷ xs) = is_tick x ≡ true

-- ---- times

-- The first time counts, and each later one that is at least `refetch` above the last one that counted, which is
-- `last`.
abbrev pub counts_at : (refetch : ℕ) → (last : Option ℕ) → ℕ → Bool
counts_at refetch None time = true
counts_at refetch (Some last) time = nat_le (last + refetch) time

abbrev pub last_at : (counts : Bool) → (last : Option ℕ) → ℕ → Option ℕ
last_at true last time = Some time
last_at false last time = last

abbrev pub last_by : (refetch : ℕ) → (last : Option ℕ) → ℕ → Option ℕ
last_by refetch last time = last_at (counts_at refetch last time) last time

abbrev pub bit : Bool → ℕ
bit true = 1
bit false = 0

-- how many of these times count
abbrev pub counted : (refetch : ℕ) → (last : Option ℕ) → List ℕ → ℕ
counted refetch last [] = 0
counted refetch last (time ∷ times) =
    bit (counts_at refetch last time) + counted refetch (last_by refetch last time) times

-- the last one that counted
abbrev pub last_after : (refetch : ℕ) → (last : Option ℕ) → List ℕ → Option ℕ
last_after refetch last [] = last
last_after refetch last (time ∷ times) = last_after refetch (last_by refetch last time) times
