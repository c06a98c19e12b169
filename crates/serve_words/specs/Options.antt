-- Options of two words. This project's own.
use Rattle.std.specs.Prelude.{ℕ, if◌then◌else◌, Option, Some, None, List, [], ◌∷◌}
use Rattle.std.specs.Str.{bytes_eq}

-- the word after an option's name, where words come in twos
abbrev pub value_of : List ℕ → List (List ℕ) → Option (List ℕ)
value_of name [] = None
value_of name (word ∷ []) = None
value_of name (word ∷ next ∷ words) = if bytes_eq word name then Some next else value_of name words
