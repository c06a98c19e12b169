-- A copy of seats without the empty ones, and of the keys that they need.
use Rattle.std.specs.Prelude.{◌≡◌, ◌<◌, ◌≤◌, ℕ, Some, List, [], ◌∷◌, ◌++◌, length, slice_get}
use Rattle.std.specs.List.{AllByRecursion}
use Rattle.cohort_map.specs.declared.key.CohortKey.{CohortKey}
use Rattle.cohort_map.specs.declared.seat.Seat.{Seat}
use Rattle.cohort_map.specs.Seats.{Rise, IsSound, entries_of}
use Rattle.cohort_map.specs.Listed.{Seating}

-- a seat was copied behind others, to the cohort of an equal key
pub record IsCopied (from : List CohortKey) (s : Seat) (keys more : List CohortKey) (before after : Seating) : Type 0 where
  pub stay : (i : ℕ) (k : CohortKey) → slice_get keys i ≡ Some k → slice_get more i ≡ Some k
  pub grows : length keys ≤ length more
  pub few : length more ≤ after.cohorts
  pub cohort : ℕ
  pub key : CohortKey
  pub of : slice_get from s.cohort ≡ Some key
  pub to : slice_get more cohort ≡ Some key
  pub pushed : after.seats ≡ before.seats ++ (record s { cohort = cohort }) ∷ []

-- the seats of the copy are seen as those that were copied
pub record Copies (from : List CohortKey) (all : List Seat) (keys : List CohortKey) (copy : Seating) : Type 0 where
  pub rise : Rise copy.seats
  pub sound : AllByRecursion (IsSound (length keys)) copy.seats
  pub few : length keys ≤ copy.cohorts
  pub seen : entries_of keys copy.seats ≡ entries_of from all
  pub below : (n : ℕ) → AllByRecursion (λ s. s.number < n) all → AllByRecursion (λ s. s.number < n) copy.seats

-- a seat with a number above all goes into the copy too
abbrev pub Goes : List CohortKey → Seat → List CohortKey → List CohortKey → Seating → Seating → Type 0
Goes from s keys more before after =
    (all : List Seat) → AllByRecursion (λ t. t.number < s.number) all → Copies from all keys before
    → Copies from (all ++ s ∷ []) more after
