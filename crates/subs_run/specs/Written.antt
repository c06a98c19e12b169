-- What one call has written into a sink, where the sink tells it. This project's own.
use Rattle.std.specs.Prelude.{◌≡◌, ℕ, Option, Some, List, ◌++◌, take}

-- all of these bytes
abbrev pub WritesAll : Option (List ℕ) → Option (List ℕ) → List ℕ → Type 0
WritesAll old new bytes = (w : List ℕ) → old ≡ Some w → new ≡ Some (w ++ bytes)

-- a front of these bytes
abbrev pub WritesFront : Option (List ℕ) → Option (List ℕ) → List ℕ → Type 0
WritesFront old new bytes = (w : List ℕ) → old ≡ Some w → (n : ℕ) × (new ≡ Some (w ++ take n bytes))

-- behind what stood there: from the transcript so far to a longer one
abbrev pub WritesOn : Option (List ℕ) → Option (List ℕ) → List ℕ → List ℕ → Type 0
WritesOn old new before after = (w : List ℕ) → old ≡ Some (w ++ before) → new ≡ Some (w ++ after)

-- a front of the longer one
abbrev pub WritesFrontOn : Option (List ℕ) → Option (List ℕ) → List ℕ → List ℕ → Type 0
WritesFrontOn old new before after = (w : List ℕ) → old ≡ Some (w ++ before) → (n : ℕ)
    × (new ≡ Some (w ++ take n after))
