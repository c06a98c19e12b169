-- Lists in ascending order, where elements that tie stay as they stood. This project's own.
use Rattle.std.specs.Prelude.{List, [], ◌∷◌, if◌then◌else◌}
use Rattle.std.specs.Ordering.{is_le, match_ordering}
use Rattle.std.specs.declared.cmp.Ordering.{Ordering}

-- x before the first element that it isn't above
abbrev pub placed : {X : Type 0} → (X → X → Ordering) → X → List X → List X
placed cmp x [] = x ∷ []
placed cmp x (y ∷ ys) = if is_le (cmp x y) then x ∷ y ∷ ys else y ∷ placed cmp x ys

-- all elements in order: those that tie stay in the order in which they stood
abbrev pub ordered : {X : Type 0} → (X → X → Ordering) → List X → List X
ordered cmp [] = []
ordered cmp (x ∷ xs) = placed cmp x (ordered cmp xs)

-- x in its place, unless an element that ties with it is there
abbrev pub included : {X : Type 0} → (X → X → Ordering) → X → List X → List X
included cmp x [] = x ∷ []
included cmp x (y ∷ ys) = match_ordering (cmp x y) (x ∷ y ∷ ys) (y ∷ ys) (y ∷ included cmp x ys)

-- the elements in order, of those that tie one
abbrev pub distinct_in_order : {X : Type 0} → (X → X → Ordering) → List X → List X
distinct_in_order cmp [] = []
distinct_in_order cmp (x ∷ xs) = included cmp x (distinct_in_order cmp xs)
