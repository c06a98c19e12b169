-- Lists of places in a list, and what is read at them.
use Rattle.std.specs.Prelude.{◌≡◌, ℕ, ◌<◌, ⊤, Bool, true, Some, List, [], ◌∷◌, filter_map, Contains, slice_get}
use Rattle.std.specs.List.{AllByRecursion}
use Rattle.place_list.specs.declared.list.PlaceList.TheInside.{Inside}

-- places, and whether none was missed
pub record Places : Type 0 where
  pub places : List ℕ
  pub complete : Bool

abbrev pub seen : Inside → Places
seen l = record { places = l.places.items; complete = l.complete }

-- each place is below the later ones
abbrev pub Ascends : List ℕ → Type 0
Ascends [] = ⊤
Ascends (p ∷ places) = AllByRecursion (λ q. p < q) places × Ascends places

-- the items at places, in the order of the places; a place past the end has none
abbrev pub read_at : {X : Type 0} → List X → List ℕ → List X
read_at items places = filter_map (slice_get items) places

-- the places of all items at which the test is true are among these
abbrev pub Covers : {X : Type 0} → (X → Bool) → List X → List ℕ → Type 0
Covers {X} test items places = (i : ℕ) (x : X) → slice_get items i ≡ Some x → test x ≡ true → Contains places i
