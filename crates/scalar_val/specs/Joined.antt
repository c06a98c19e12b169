-- Texts that are joined to one, as JSON (RFC 8259) and GraphQL write lists and objects.
use Rattle.std.specs.Prelude.{ℕ, List, [], ◌∷◌, ◌++◌, flat_map}

-- a text is the list of its bytes in UTF-8
abbrev pub Text : Type 0
Text = List ℕ

-- texts with a byte between each two
abbrev pub parted : ℕ → List Text → Text
parted b [] = []
parted b (t ∷ ts) = t ++ flat_map (λ u. b ∷ u) ts

abbrev pub in_brackets : List Text → Text
in_brackets ts = 91 ∷ parted 44 ts ++ 93 ∷ []

abbrev pub in_braces : List Text → Text
in_braces ts = 123 ∷ parted 44 ts ++ 125 ∷ []

-- a name, a colon and what is named
abbrev pub named_text : Text → Text → Text
named_text name text = name ++ 58 ∷ text
