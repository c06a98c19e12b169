-- Maps from names to places.
use Rattle.std.specs.Prelude.{◌≡◌, ℕ, ◌+◌, List, Some, String, if◌then◌else◌, option_map}
use Rattle.std.specs.Global.{Global}
use Rattle.std.specs.Str.{bytes_eq}
use Rattle.std.specs.BTreeMap.{BTreeMap, get_by_text}
use Rattle.name_set.specs.Names.{first_at}
use Rattle.request_model.specs.Strings.{Text}

-- the map has this place at the name, and all other names are as they were
abbrev pub Notes : BTreeMap (String Global) ℕ → BTreeMap (String Global) ℕ → Text → ℕ → Type 0
Notes before after name place =
    (t : Text) → get_by_text after t ≡ (if bytes_eq t name then Some place else get_by_text before t)

-- each name leads to the place at which it comes first, counted from the place of the first
abbrev pub FindsFrom : ℕ → BTreeMap (String Global) ℕ → List Text → Type 0
FindsFrom start places names = (t : Text) → get_by_text places t ≡ option_map (λ k. start + k) (first_at names t)
