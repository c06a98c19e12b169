-- How seats are found by their cohorts and by their jobs: by lists of their places.
use Rattle.std.specs.Prelude.{◌≡◌, ◌≤◌, ℕ, Bool, true, false, ◌&&◌, ◌==◌, if◌then◌else◌, Option, Some, None, is_some, List, length, find, Contains, slice_get}
use Rattle.std.specs.BTreeMap.{BTreeMap, get}
use Rattle.std.specs.Ordering.{nat_cmp}
use Rattle.place_list.specs.Places.{Places, Ascends, Covers}
use Rattle.cohort_map.specs.declared.member.Member.{Member}
use Rattle.cohort_map.specs.declared.seat.Seat.{Seat}
use Rattle.cohort_map.specs.declared.seats.Seats.TheInside.{Inside}
use Rattle.cohort_map.specs.Batches.{is_job}
use Rattle.cohort_map.specs.Seats.{is_kept, is_live_in, has_job_in, seat_due, member_seen}
use Rattle.cohort_map.specs.Choice.{is_among}

-- seats, and how many cohorts can have one
pub record Seating : Type 0 where
  pub seats : List Seat
  pub cohorts : ℕ

abbrev pub seating : Inside → Seating
seating s = record { seats = s.seats.items; cohorts = length s.lists.items }

-- a seat of the cohort, which isn't empty
abbrev pub belongs : ℕ → Seat → Bool
belongs cohort s = is_kept s && (s.cohort == cohort)

abbrev pub belongs_by : ℕ → Option Seat → Bool
belongs_by cohort (Some s) = belongs cohort s
belongs_by cohort None = false

-- there is such a seat at a place
abbrev pub belongs_at : ℕ → List Seat → ℕ → Bool
belongs_at cohort seats place = belongs_by cohort (slice_get seats place)

abbrev pub is_of_job : ℕ → Seat → Bool
is_of_job job s = is_job job s.job

-- a list that is complete has the places of all seats at which the test is true, and maybe others
abbrev pub Lists : (Seat → Bool) → List Seat → Places → Type 0
Lists test seats l = l.complete ≡ true → Covers test seats l.places

abbrev pub AreListed : List Seat → List Places → Type 0
AreListed seats lists = (c : ℕ) (l : Places) → slice_get lists c ≡ Some l → Lists (belongs c) seats l

abbrev pub JobsAreListed : List Seat → BTreeMap ℕ Places → Type 0
JobsAreListed seats jobs = (j : ℕ) (l : Places) → get nat_cmp jobs j ≡ Some l → Lists (is_of_job j) seats l

-- each job that a seat is marked with has a list
abbrev pub JobsAreKnown : List Seat → BTreeMap ℕ Places → Type 0
JobsAreKnown seats jobs =
    (i j : ℕ) (s : Seat) → slice_get seats i ≡ Some s → is_of_job j s ≡ true → is_some (get nat_cmp jobs j) ≡ true

abbrev pub no_seat : Seat
no_seat = record { number = 0; cohort = 0; live = false; due = false; job = None }

-- no due seat is before a place
abbrev pub NoneDue : ℕ → List Seat → Type 0
NoneDue place seats = (i : ℕ) (s : Seat) → slice_get seats i ≡ Some s → s.due ≡ true → place ≤ i

-- seats, and the lists of their places; `unlisted` says that jobs may lack one
pub record AreHeld (seats : List Seat) (lists : List Places) (jobs : BTreeMap ℕ Places) (unlisted : Bool) : Type 0 where
  pub cohorts : AreListed seats lists
  pub jobs_listed : JobsAreListed seats jobs
  pub known : unlisted ≡ false → JobsAreKnown seats jobs

pub record IsListed (inside : Inside) : Type 0 where
  pub held : AreHeld inside.seats.items inside.lists.items inside.jobs inside.unlisted
  pub enough : length inside.lists.items ≤ length inside.flags.items
  pub least : NoneDue inside.first inside.seats.items

-- ---- what is read at a place

abbrev pub live_by : ℕ → Option Seat → Option ℕ
live_by cohort (Some s) = if is_live_in cohort s then Some s.number else None
live_by cohort None = None

-- the number of a live seat of the cohort at a place
abbrev pub live_at : ℕ → List Seat → ℕ → Option ℕ
live_at cohort seats place = live_by cohort (slice_get seats place)

abbrev pub busy_by : ℕ → Option Seat → Bool
busy_by cohort (Some s) = has_job_in cohort s
busy_by cohort None = false

-- there is a seat of the cohort, which is a member of an open job, at a place
abbrev pub busy_at : ℕ → List Seat → ℕ → Bool
busy_at cohort seats place = busy_by cohort (slice_get seats place)

-- ---- what happens to lists

-- these are the places of a list that is complete
pub record IsComplete (l : Places) (places : List ℕ) : Type 0 where
  pub complete : l.complete ≡ true
  pub is : places ≡ l.places
  pub ascend : Ascends places

pub record IsKnown (lists : List Places) (cohort : ℕ) (places : List ℕ) : Type 0 where
  pub list : Places
  pub at : slice_get lists cohort ≡ Some list
  pub complete : IsComplete list places

-- one list becomes another as R says, and the others stay
pub record IsChanged (R : Places → Places → Type 0) (cohort : ℕ) (before after : List Places) : Type 0 where
  pub long : length after ≡ length before
  pub others : (k : ℕ) → (k ≡ cohort → ⊥) → slice_get after k ≡ slice_get before k
  pub here : (m : Places) → slice_get after cohort ≡ Some m → (l : Places) × (slice_get before cohort ≡ Some l) × R l m

-- a list has a place more, unless it isn't complete any more
pub record IsAdded (place : ℕ) (l m : Places) : Type 0 where
  pub keeps : (p : ℕ) → Contains l.places p → Contains m.places p
  pub added : m.complete ≡ true → Contains m.places place
  pub complete : m.complete ≡ true → l.complete ≡ true

-- a list has lost stale places alone
pub record IsSettled (cohort : ℕ) (seats : List Seat) (l m : Places) : Type 0 where
  pub keeps : (p : ℕ) → Contains l.places p → belongs_at cohort seats p ≡ true → Contains m.places p
  pub complete : m.complete ≡ l.complete

-- what is taken for a job: its list, or where there is none, one that is complete only where no job lacks one
pub record IsTaken (job : ℕ) (unlisted : Bool) (jobs : BTreeMap ℕ Places) (taken : Places) : Type 0 where
  pub there : (l : Places) → get nat_cmp jobs job ≡ Some l → taken ≡ l
  pub absent : get nat_cmp jobs job ≡ None → taken.complete ≡ true → unlisted ≡ false

-- ---- the choice of a batch

-- the seat of the least due number is at this place
pub record IsFirstDue (seats : List Seat) (place : ℕ) : Type 0 where
  pub seat : Seat
  pub at : slice_get seats place ≡ Some seat
  pub is : find seat_due seats ≡ Some seat
  pub before : NoneDue place seats

-- a seat of one of these cohorts, which isn't empty
abbrev pub is_in : List ℕ → Seat → Bool
is_in cohorts s = is_kept s && is_among s.cohort cohorts

-- the lists of these cohorts are complete, and all of their places are among these
abbrev pub Gathers : List Places → List ℕ → List ℕ → Type 0
Gathers lists cohorts places =
    (c : ℕ) → is_among c cohorts ≡ true →
    (l : Places) × (slice_get lists c ≡ Some l) × (l.complete ≡ true) × ((p : ℕ) → Contains l.places p → Contains places p)

-- ascending places, which have all seats of these cohorts
pub record HasPlaces (seats : List Seat) (cohorts places : List ℕ) : Type 0 where
  pub ascend : Ascends places
  pub covers : Covers (is_in cohorts) seats places

-- what the least place that may be due becomes where a job's members may be due
pub record IsLowered (first : ℕ) (l : Places) (due : Bool) (lowered : ℕ) : Type 0 where
  pub most : lowered ≤ first
  pub places : due ≡ true → l.complete ≡ true → (p : ℕ) → Contains l.places p → lowered ≤ p
  pub all : due ≡ true → l.complete ≡ false → lowered ≡ 0

abbrev pub seen_by : List ℕ → Option Seat → Option Member
seen_by cohorts (Some s) = member_seen cohorts s
seen_by cohorts None = None

-- the member that the seat at a place is
abbrev pub seen_at : List ℕ → List Seat → ℕ → Option Member
seen_at cohorts seats place = seen_by cohorts (slice_get seats place)
