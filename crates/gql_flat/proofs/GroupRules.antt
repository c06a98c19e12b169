-- How a field joins its group.
use Rattle.std.proofs.Common.{◌≡◌, ◌∙◌, ◌<◌, sym, ap, refl, arith, subst, ℕ, zero, suc, Bool, true, false, if◌then◌else◌, List, [], ◌∷◌, ◌++◌, length, get_or, set, Option, Some, None}
use Rattle.std.specs.Prelude.{option_map}
use Rattle.std.specs.Str.{bytes_eq}
use Rattle.request_model.specs.Strings.{Text}
use Rattle.request_model.specs.Selection.{Selected, Group, grouped}
use Rattle.name_set.specs.Names.{first_at}
use Rattle.gql_flat.specs.Collecting.{keys_of}

abbrev pub joined : Group → Selected → Group
joined g f = record { first = g.first; others = g.others ++ f ∷ [] }

-- what is done where a key is found gives these groups
abbrev GroupsAre : Selected → List Group → List Group → Option ℕ → Type 0
GroupsAre f gs after None = gs ++ record { first = f; others = [] } ∷ [] ≡ after
GroupsAre f gs after (Some at) = (at < length gs) × ((g : Group) → g ≡ get_or gs at g → set gs at (joined g f) ≡ after)

grouped_or : (f : Selected) (h : Group) (gs after : List Group) (b : Bool) (o : Option ℕ) → GroupsAre f gs after o →
    GroupsAre f (h ∷ gs) (if b then joined h f ∷ gs else h ∷ after) (if b then Some zero else option_map suc o)
grouped_or f h gs after true o later = (omega arith, λ g e. ap (λ x. joined x f ∷ gs) e)
grouped_or f h gs after false None later = ap (λ xs. h ∷ xs) later
grouped_or f h gs after false (Some at) later = (omega (arith, later.0), λ g e. ap (λ xs. h ∷ xs) (later.1 g e))

grouped_at : (f : Selected) (gs : List Group) → GroupsAre f gs (grouped f gs) (first_at (keys_of gs) f.key)
grouped_at f [] = refl
grouped_at f (h ∷ gs) = grouped_or f h gs (grouped f gs) (bytes_eq f.key h.first.key) (first_at (keys_of gs) f.key) (grouped_at f gs)

module _ (f : Selected) (gs : List Group) (keys : List Text) (key : Text) (o : Option ℕ) (ek : keys ≡ keys_of gs) (same : key ≡ f.key) (eo : o ≡ first_at keys key) where
  place_is : o ≡ first_at (keys_of gs) f.key
  place_is = eo ∙ ap (first_at keys) same ∙ ap (λ ks. first_at ks f.key) ek

  groups_are : GroupsAre f gs (grouped f gs) o
  groups_are = subst (GroupsAre f gs (grouped f gs)) (sym place_is) (grouped_at f gs)

pub is_below : (f : Selected) (gs : List Group) (keys : List Text) (key : Text) (at : ℕ) → keys ≡ keys_of gs → key ≡ f.key → Some at ≡ first_at keys key → at < length gs
is_below f gs keys key at ek same eo = (groups_are f gs keys key (Some at) ek same eo).0

pub joins : (f : Selected) (gs : List Group) (keys : List Text) (key : Text) (at : ℕ) (g : Group) → keys ≡ keys_of gs → key ≡ f.key → Some at ≡ first_at keys key → g ≡ get_or gs at g → set gs at (joined g f) ≡ grouped f gs
joins f gs keys key at g ek same eo e = (groups_are f gs keys key (Some at) ek same eo).1 g e

pub begins : (f : Selected) (gs : List Group) (keys : List Text) (key : Text) → keys ≡ keys_of gs → key ≡ f.key → None ≡ first_at keys key → gs ++ record { first = f; others = [] } ∷ [] ≡ grouped f gs
begins f gs keys key ek same eo = groups_are f gs keys key None ek same eo

pub keys_stay : (gs : List Group) (at : ℕ) (g h : Group) → g ≡ get_or gs at g → h.first ≡ g.first → keys_of (set gs at h) ≡ keys_of gs
keys_stay [] at g h eg eh = refl
keys_stay (x ∷ gs) zero g h eg eh = ap (λ (k : Selected). k.key ∷ keys_of gs) (eh ∙ ap (λ (y : Group). y.first) eg)
keys_stay (x ∷ gs) (suc at) g h eg eh = ap (λ ks. x.first.key ∷ ks) (keys_stay gs at g h eg eh)
