-- How seats are found by their pollers: by lists of their places, one for each poller.
use Rattle.std.specs.Prelude.{◌≡◌, ◌≤◌, ◌⊎◌, ℕ, Bool, true, false, ◌&&◌, Option, Some, None, is_some, List, []}
use Rattle.std.specs.Prelude.{Contains, slice_get}
use Rattle.std.specs.BTreeMap.{BTreeMap, get}
use Rattle.place_list.specs.Places.{Places, Ascends}
use Rattle.cohort_map.specs.declared.key.CohortKey.{CohortKey}
use Rattle.cohort_map.specs.declared.key.PollerKey.{PollerKey}
use Rattle.cohort_map.specs.declared.seat.Seat.{Seat}
use Rattle.cohort_map.specs.Keys.{poller_cmp, same_poller}
use Rattle.cohort_map.specs.Seats.{is_kept}
use Rattle.cohort_map.specs.Listed.{Lists}

-- a cohort's key, if there is one, is of the poller
abbrev pub is_polled : PollerKey → Option CohortKey → Bool
is_polled poller (Some k) = same_poller poller k.poller
is_polled poller None = false

-- a seat of the poller, which isn't empty
abbrev pub is_of : List CohortKey → PollerKey → Seat → Bool
is_of keys poller s = is_kept s && is_polled poller (slice_get keys s.cohort)

abbrev pub is_of_by : List CohortKey → PollerKey → Option Seat → Bool
is_of_by keys poller (Some s) = is_of keys poller s
is_of_by keys poller None = false

-- there is such a seat at a place
abbrev pub is_of_at : List CohortKey → PollerKey → List Seat → ℕ → Bool
is_of_at keys poller seats place = is_of_by keys poller (slice_get seats place)

-- the poller has a list
abbrev pub IsKept : PollerKey → BTreeMap PollerKey Places → Type 0
IsKept poller pollers = is_some (get poller_cmp pollers poller) ≡ true

-- the lists of pollers have the places of their seats, and each poller with a seat has one
pub record ArePolled (keys : List CohortKey) (seats : List Seat) (pollers : BTreeMap PollerKey Places) : Type 0 where
  pub listed : (p : PollerKey) (l : Places) → get poller_cmp pollers p ≡ Some l → Lists (is_of keys p) seats l
  pub known : (p : PollerKey) (i : ℕ) (s : Seat) → slice_get seats i ≡ Some s → is_of keys p s ≡ true → IsKept p pollers

abbrev pub no_places : Places
no_places = record { places = []; complete = true }

-- each poller has the list that it had, or a new one without a place in place of none
abbrev pub AreMade : BTreeMap PollerKey Places → BTreeMap PollerKey Places → Type 0
AreMade before after =
    (p : PollerKey) → (get poller_cmp after p ≡ get poller_cmp before p)
    ⊎ ((get poller_cmp before p ≡ None) × (get poller_cmp after p ≡ Some no_places))

-- the list of one poller, if it has one, becomes another as R says, and the others stay
pub record IsChangedAt (R : Places → Places → Type 0) (poller : PollerKey)
    (before after : BTreeMap PollerKey Places) : Type 0 where
  pub others : (p : PollerKey) → same_poller poller p ≡ false → get poller_cmp after p ≡ get poller_cmp before p
  pub here : (m : Places) → get poller_cmp after poller ≡ Some m
      → (l : Places) × (get poller_cmp before poller ≡ Some l) × R l m
  pub stays : IsKept poller before → IsKept poller after

-- a list has lost stale places alone
pub record IsSwept (keys : List CohortKey) (poller : PollerKey) (seats : List Seat) (l m : Places) : Type 0 where
  pub keeps : (p : ℕ) → Contains l.places p → is_of_at keys poller seats p ≡ true → Contains m.places p
  pub complete : m.complete ≡ l.complete

-- ascending places, which have all seats of the poller that aren't before a place
pub record HasRest (keys : List CohortKey) (poller : PollerKey) (seats : List Seat) (first : ℕ)
    (places : List ℕ) : Type 0 where
  pub ascend : Ascends places
  pub covers : (i : ℕ) (s : Seat) → slice_get seats i ≡ Some s → is_of keys poller s ≡ true → first ≤ i
      → Contains places i
