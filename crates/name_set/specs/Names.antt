-- Names in order.
use Rattle.std.specs.Prelude.{
  ◌≡◌,
  ℕ,
  zero,
  suc,
  Bool,
  true,
  false,
  if◌then◌else◌,
  ◌||◌,
  List,
  [],
  ◌∷◌,
  ◌++◌,
  Option,
  Some,
  None,
  option_map,
}
use Rattle.std.specs.Bool.{MatchBool}
use Rattle.std.specs.List.{list_any}
use Rattle.std.specs.Str.{bytes_eq}

-- a name is the list of its bytes
abbrev pub Text : Type 0
Text = List ℕ

-- the place at which a name comes first
abbrev pub first_at : List Text → Text → Option ℕ
first_at [] name = None
first_at (n ∷ ns) name = if bytes_eq name n then Some zero else option_map suc (first_at ns name)

-- the names with one more at the end, if it isn't there
abbrev pub inserted : List Text → Text → List Text
inserted names name = if list_any (bytes_eq name) names then names else names ++ name ∷ []

-- a name that is new stands at the end now, and one that is there changes nothing
abbrev pub Inserts : Bool → List Text → List Text → Text → Type 0
Inserts new before after name =
    MatchBool new
    ((list_any (bytes_eq name) before ≡ false) × (after ≡ before ++ name ∷ []))
    ((list_any (bytes_eq name) before ≡ true) × (after ≡ before))

-- two of the names are the same
abbrev pub repeats : List Text → Bool
repeats [] = false
repeats (n ∷ ns) = list_any (bytes_eq n) ns || repeats ns
