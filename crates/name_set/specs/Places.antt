-- Maps from names to places.
use denote.Ref.{Bor}
use Rattle.std.specs.Prelude.{◌≡◌, ℕ, List, Option, Some, String}
use Rattle.std.specs.Global.{Global}
use Rattle.std.specs.Ordering.{nat_cmp}
use Rattle.std.specs.Cmp.Lexicographic.{slice_cmp}
use Rattle.std.specs.BTreeMap.{BTreeMap, get_by, get_by_text, UpdatesBy}
use Rattle.name_set.specs.Names.{Text, first_at}

-- each name leads to the place at which it comes first, and any other to none
abbrev pub Finds : BTreeMap (String Global) ℕ → List Text → Type 0
Finds places names = (name : Text) → get_by_text places name ≡ first_at names name

-- ---- the same where names are borrowed

-- what a map has at a name
abbrev pub place_in : BTreeMap (Bor Text) ℕ → Text → Option ℕ
place_in places name = get_by (λ k. slice_cmp nat_cmp name k.now) places

abbrev pub ArePlaces : List Text → BTreeMap (Bor Text) ℕ → Type 0
ArePlaces names places = (name : Text) → place_in places name ≡ first_at names name

-- the map has learnt the place of a name
abbrev pub Learns : BTreeMap (Bor Text) ℕ → BTreeMap (Bor Text) ℕ → Text → ℕ → Type 0
Learns before after name place =
    UpdatesBy (λ x y. slice_cmp nat_cmp x.now y.now) (λ k. slice_cmp nat_cmp name k.now) before after (Some place)
