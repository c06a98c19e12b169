-- Numbers in order, and maps from numbers to places. This project's own.
use Rattle.std.specs.Prelude.{◌≡◌, ℕ, zero, suc, ◌==◌, List, [], ◌∷◌, Option, Some, None, option_map, unwrap_or}
use Rattle.std.specs.Prelude.{if◌then◌else◌}
use Rattle.std.specs.Ordering.{nat_cmp}
use Rattle.std.specs.BTreeMap.{BTreeMap, get}

-- the place at which a number comes first
abbrev pub first_number : List ℕ → ℕ → Option ℕ
first_number [] number = None
first_number (n ∷ ns) number = if n == number then Some zero else option_map suc (first_number ns number)

-- what a map has at a number
abbrev pub place_in : BTreeMap ℕ ℕ → ℕ → Option ℕ
place_in places number = get nat_cmp places number

-- the map has learnt the place of a number, if it had none
abbrev pub Learns : BTreeMap ℕ ℕ → BTreeMap ℕ ℕ → ℕ → ℕ → Type 0
Learns before after number place =
    (q : ℕ) → place_in after q ≡ (if number == q then Some (unwrap_or (place_in before number) place) else place_in before q)

-- each number leads to the place at which it comes first, and any other to none
abbrev pub HasPlaces : BTreeMap ℕ ℕ → List ℕ → Type 0
HasPlaces places numbers = (q : ℕ) → place_in places q ≡ first_number numbers q
