-- How the map holds its entries: a seat for each number that joined, in order. A seat whose subscription neither lives nor is a
-- member of an open job is empty.
use Rattle.std.specs.Prelude.{◌≡◌, ◌<◌, ◌≤◌, ⊤, ℕ, ◌+◌, Bool, true, false, ◌&&◌, ◌||◌, not, ◌==◌, if◌then◌else◌, is_some, Option, Some, None, List, [], ◌∷◌, ◌++◌, length, map, find, filter_map, Contains, slice_get, slice_index_or}
use Rattle.std.specs.Option.{option_map}
use Rattle.std.specs.List.{list_any, position_from, AllByRecursion}
use Rattle.std.specs.Ordering.{is_eq}
use Rattle.scalar_val.specs.declared.val.Val.{Val}
use Rattle.scalar_val.specs.ValOrder.{val_cmp}
use Rattle.cohort_map.specs.declared.key.CohortKey.{CohortKey}
use Rattle.cohort_map.specs.declared.member.Member.{Member}
use Rattle.cohort_map.specs.declared.seat.Seat.{Seat}
use Rattle.cohort_map.specs.declared.seat.ReadySeat.{ReadySeat}
use Rattle.cohort_map.specs.Keys.{with_cursor}
use Rattle.cohort_map.specs.Entries.{Entry, Ready, Held}
use Rattle.cohort_map.specs.Batches.{is_member, is_job}

abbrev pub seat_numbers : List Seat → List ℕ
seat_numbers = map (λ s. s.number)

abbrev pub is_kept : Seat → Bool
is_kept s = s.live || is_some s.job

-- ---- what contracts see

abbrev pub entry_with : Seat → CohortKey → Entry
entry_with s k =
    record { number = s.number; poller = k.poller; binding = k.binding; live = s.live; due = s.due; job = s.job }

abbrev pub seen : List CohortKey → Seat → Option Entry
seen keys s = if is_kept s then option_map (entry_with s) (slice_get keys s.cohort) else None

abbrev pub entries_of : List CohortKey → List Seat → List Entry
entries_of keys seats = filter_map (seen keys) seats

abbrev pub ready_with : ReadySeat → CohortKey → Ready
ready_with r k = record { number = r.number; cursor = k.binding.cursor }

abbrev pub ready_seen : List CohortKey → ReadySeat → Option Ready
ready_seen keys r = option_map (ready_with r) (slice_get keys r.cohort)

abbrev pub ready_of : List CohortKey → List ReadySeat → List Ready
ready_of keys ready = filter_map (ready_seen keys) ready

-- ---- the invariant

-- each number is below the later ones
abbrev pub Rise : List Seat → Type 0
Rise [] = ⊤
Rise (s ∷ seats) = AllByRecursion (λ t. s.number < t.number) seats × Rise seats

-- a seat's cohort has a key, and only a live subscription is due
pub record IsSound (count : ℕ) (s : Seat) : Type 0 where
  pub within : s.cohort < count
  pub lives : s.due ≡ true → s.live ≡ true

-- the ready cohort of a seat's number is the seat's own but for the cursor
abbrev pub CanMove : List CohortKey → ReadySeat → Seat → Type 0
CanMove keys r s =
    r.number ≡ s.number → (k to : CohortKey) → slice_get keys s.cohort ≡ Some k → slice_get keys r.cohort ≡ Some to →
    to ≡ record { poller = k.poller; binding = with_cursor to.binding.cursor k.binding }

pub record IsReady (keys : List CohortKey) (seats : List Seat) (r : ReadySeat) : Type 0 where
  pub within : r.cohort < length keys
  pub moves : AllByRecursion (CanMove keys r) seats

pub record IsSeated (keys : List CohortKey) (seats : List Seat) (ready : List ReadySeat) : Type 0 where
  pub rise : Rise seats
  pub sound : AllByRecursion (IsSound (length keys)) seats
  pub movable : AllByRecursion (IsReady keys seats) ready

-- ---- what the calls do to seats

abbrev pub is_at : ℕ → Seat → Bool
is_at number s = (s.number == number) && is_kept s

abbrev pub seat_live : Seat → Bool
seat_live s = s.live

abbrev pub is_live_at : ℕ → Seat → Bool
is_live_at number s = (s.number == number) && s.live

-- the seat of a number, if it isn't empty, becomes what f makes of it
abbrev pub at : ℕ → (Seat → Seat) → Seat → Seat
at number f s = if is_at number s then f s else s

abbrev pub IsWithin : ℕ → Seat → Type 0
IsWithin count s = s.cohort < count

-- the seats before a place have lesser numbers, and those from it on no lesser ones
abbrev pub AreBelow : ℕ → List Seat → ℕ → Type 0
AreBelow number seats place = (k : ℕ) (d : Seat) → k < place → (slice_index_or seats k d).number < number

abbrev pub AreFrom : ℕ → List Seat → ℕ → Type 0
AreFrom number seats place = (k : ℕ) (d : Seat) → place ≤ k → k < length seats → number ≤ (slice_index_or seats k d).number

-- a place of a number's seat, which isn't empty
pub record HasSeat (number : ℕ) (seats : List Seat) (place : ℕ) : Type 0 where
  pub seat : Seat
  pub is : slice_get seats place ≡ Some seat
  pub holds : is_at number seat ≡ true

-- the seat of the number, which isn't empty, has this cohort
pub record IsCohortOf (number : ℕ) (seats : List Seat) (cohort : ℕ) : Type 0 where
  pub seat : Seat
  pub is : find (is_at number) seats ≡ Some seat
  pub of : seat.cohort ≡ cohort

abbrev pub AreEmpty : List Seat → Type 0
AreEmpty seats = AllByRecursion (λ s. is_kept s ≡ false) seats

-- a list of seats without empty ones at its end
pub record IsCut (before after : List Seat) : Type 0 where
  pub dropped : List Seat
  pub is : before ≡ after ++ dropped
  pub empty : AreEmpty dropped

abbrev pub EndsKept : List Seat → Type 0
EndsKept [] = ⊤
EndsKept (s ∷ []) = is_kept s ≡ true
EndsKept (s ∷ t ∷ seats) = EndsKept (t ∷ seats)

abbrev pub IsReadyWithin : ℕ → ReadySeat → Type 0
IsReadyWithin count r = r.cohort < count

-- a ready seat of the number has this cohort, whose cursor is this one
pub record IsReadyTo (keys : List CohortKey) (ready : List ReadySeat) (number : ℕ) (cursor : Val) (cohort : ℕ) : Type 0 where
  pub seat : ReadySeat
  pub key : CohortKey
  pub among : Contains ready seat
  pub numbered : seat.number ≡ number
  pub to : seat.cohort ≡ cohort
  pub is : slice_get keys cohort ≡ Some key
  pub reaches : key.binding.cursor ≡ cursor

-- a test whether a ready seat has this number and its cohort this cursor
abbrev pub TellsReady : List CohortKey → ReadySeat → ℕ → Val → Bool → Type 0
TellsReady keys r number cursor told =
    (k : CohortKey) → slice_get keys r.cohort ≡ Some k → told ≡ ((r.number == number) && is_eq (val_cmp k.binding.cursor cursor))

abbrev pub seat_ended : Seat → Seat
seat_ended s = record s { live = false; due = false }

abbrev pub seat_marked : ℕ → Seat → Seat
seat_marked job s = record s { job = Some job; due = false }

abbrev pub seat_opened : ℕ → List Member → Seat → Seat
seat_opened job members s = if is_member members s.number && is_kept s then seat_marked job s else s

abbrev pub seat_freed : Bool → Seat → Seat
seat_freed due s = record s { job = None; due = s.live && (s.due || due) }

abbrev pub seat_closed : ℕ → Bool → Seat → Seat
seat_closed job due s = if is_job job s.job then seat_freed due s else s

abbrev pub seat_moved : ℕ → Seat → Seat
seat_moved cohort s = record s { cohort = cohort }

-- a cohort has a member in an open job
abbrev pub has_job_in : ℕ → Seat → Bool
has_job_in cohort s = (s.cohort == cohort) && is_some s.job

abbrev pub is_cohort_busy : List Seat → ℕ → Bool
is_cohort_busy seats cohort = list_any (has_job_in cohort) seats

abbrev pub seat_ticked : List Seat → Seat → Seat
seat_ticked seats s = record s { due = s.live && not (is_cohort_busy seats s.cohort) }

-- the same by a flag for each cohort
abbrev pub seat_due_by : List Bool → Seat → Seat
seat_due_by busy s = record s { due = s.live && not (slice_index_or busy s.cohort false) }

abbrev pub is_live_in : ℕ → Seat → Bool
is_live_in cohort s = s.live && (s.cohort == cohort)

abbrev pub seat_due : Seat → Bool
seat_due s = s.due

abbrev pub member_seen : List ℕ → Seat → Option Member
member_seen cohorts s =
    if s.live then option_map (λ place. record { sub = s.number; id = place + 1 }) (position_from (λ c. c == s.cohort) 0 cohorts) else None

-- ---- the whole

abbrev pub held : List CohortKey → List Seat → List ReadySeat → Held
held keys seats ready = record { entries = entries_of keys seats; ready = ready_of keys ready }
