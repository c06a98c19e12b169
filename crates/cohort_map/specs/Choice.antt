-- How a batch is found among seats.
use Rattle.std.specs.Prelude.{◌≡◌, ℕ, Bool, false, ◌&&◌, not, ◌==◌, nat_lt, if◌then◌else◌, Option, Some, None, List, [], ◌∷◌, ◌++◌, length, filter_map, slice_get}
use Rattle.std.specs.BTreeMap.{BTreeMap, get}
use Rattle.std.specs.List.{list_any, position_from}
use Rattle.std.specs.Ordering.{nat_cmp}
use Rattle.cohort_map.specs.declared.key.CohortKey.{CohortKey}
use Rattle.cohort_map.specs.declared.member.Member.{Member}
use Rattle.cohort_map.specs.declared.seat.Seat.{Seat}
use Rattle.cohort_map.specs.Keys.{same_poller}
use Rattle.cohort_map.specs.Seats.{member_seen}

abbrev pub polled_by : Option CohortKey → Option CohortKey → Bool
polled_by (Some a) (Some b) = same_poller a.poller b.poller
polled_by (Some a) None = false
polled_by None b = false

-- the keys at two places are of one poller
abbrev pub polled_with : List CohortKey → ℕ → ℕ → Bool
polled_with keys first other = polled_by (slice_get keys first) (slice_get keys other)

abbrev pub is_among : ℕ → List ℕ → Bool
is_among cohort cohorts = list_any (λ c. c == cohort) cohorts

-- the index of a batch's cohorts gives the place of each
abbrev pub ArePlaced : List ℕ → BTreeMap ℕ ℕ → Type 0
ArePlaced cohorts places = (cohort : ℕ) → get nat_cmp places cohort ≡ position_from (λ c. c == cohort) 0 cohorts

-- a due seat of the first cohort's poller, whose cohort isn't chosen yet, while there is room
abbrev pub is_next : List CohortKey → ℕ → ℕ → List ℕ → Seat → Bool
is_next keys limit first cohorts s =
    nat_lt (length cohorts) limit && (s.due && (not (is_among s.cohort cohorts) && polled_with keys first s.cohort))

abbrev pub with_cohort : List CohortKey → ℕ → ℕ → List ℕ → Seat → List ℕ
with_cohort keys limit first cohorts s = if is_next keys limit first cohorts s then cohorts ++ s.cohort ∷ [] else cohorts

-- the cohorts that were chosen, and those that the seats add
abbrev pub chosen_cohorts : List CohortKey → ℕ → ℕ → List ℕ → List Seat → List ℕ
chosen_cohorts keys limit first cohorts [] = cohorts
chosen_cohorts keys limit first cohorts (s ∷ seats) = chosen_cohorts keys limit first (with_cohort keys limit first cohorts s) seats

abbrev pub cohorts_by : List CohortKey → ℕ → List Seat → Option Seat → List ℕ
cohorts_by keys limit seats (Some first) = chosen_cohorts keys limit first.cohort [] seats
cohorts_by keys limit seats None = []

abbrev pub batch_by : List CohortKey → ℕ → List Seat → Option Seat → List Member
batch_by keys limit seats (Some first) = filter_map (member_seen (chosen_cohorts keys limit first.cohort [] seats)) seats
batch_by keys limit seats None = []
