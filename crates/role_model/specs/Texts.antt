-- A text is the list of its bytes. A map from texts to texts is the list of its names and values, in ascending order of
-- the names' bytes, each name once. This project's own.
use Rattle.std.specs.Prelude.{ℕ, List, [], ◌∷◌, Option, Some, None}
use Rattle.std.specs.Ordering.{nat_cmp, match_ordering}
use Rattle.std.specs.Cmp.Lexicographic.{slice_cmp}

abbrev pub Text : Type 0
Text = List ℕ

abbrev pub Texts : Type 0
Texts = List (Text × Text)

-- the value of a name
abbrev pub value_of : Text → Texts → Option Text
value_of name [] = None
value_of name (e ∷ es) = match_ordering (slice_cmp nat_cmp name e.0) (value_of name es) (Some e.1) (value_of name es)

-- the map with this value at the name, in place of the one that it had
abbrev pub with_value : Text → Text → Texts → Texts
with_value name value [] = (name, value) ∷ []
with_value name value (e ∷ es) =
    match_ordering (slice_cmp nat_cmp name e.0)
    ((name, value) ∷ e ∷ es)
    ((e.0, value) ∷ es)
    (e ∷ with_value name value es)
