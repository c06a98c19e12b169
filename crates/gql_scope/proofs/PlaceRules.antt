-- The places of names.
use Rattle.std.proofs.Common.{
  ◌≡◌,
  ◌∙◌,
  sym,
  ap,
  refl,
  arith,
  ◌+◌,
  ◌-◌,
  ℕ,
  zero,
  suc,
  Bool,
  true,
  false,
  if◌then◌else◌,
  List,
  [],
  ◌∷◌,
  length,
  map,
  Option,
  Some,
  None,
}
use Rattle.std.specs.Prelude.{◌||◌, option_map, option_and_then, unwrap_or, find}
use Rattle.std.specs.Option.{option_flatten}
use Rattle.std.specs.List.{list_any, slice_get}
use Rattle.std.specs.Str.{bytes_eq}
use Rattle.std.proofs.lemmas.List.Recursion.{is_position_or_len}
use Rattle.request_model.specs.Strings.{Text}
use Rattle.request_model.specs.Selection.{Scope, Fragment, repeats, fragment_named, variable_bool}
use Rattle.request_model.specs.declared.document.VarDef.{VarDef}
use Rattle.gql_scope.specs.Scopes.{AreVariables}
use Rattle.gql_scope.specs.Walks.{place_of}
use Rattle.name_set.specs.Names.{first_at, repeats as has_repeats}

pub same_repeats : (names : List Text) → has_repeats names ≡ repeats names
same_repeats [] = refl
same_repeats (n ∷ ns) = ap (λ b. list_any (bytes_eq n) ns || b) (same_repeats ns)

-- ---- a name is looked up

find_or : (b : Bool) (f : Fragment) (fs : List Fragment) (o : Option ℕ) (found : Option Fragment) →
    option_and_then (slice_get fs) o ≡ found →
    option_and_then (slice_get (f ∷ fs)) (if b then Some zero else option_map suc o) ≡ (if b then Some f else found)
find_or true f fs o found h = refl
find_or false f fs (Some k) found h = h
find_or false f fs None found h = h

pub found_at : (fs : List Fragment) (t : Text) →
    option_and_then (slice_get fs) (first_at (map (λ (f : Fragment). f.name) fs) t) ≡ fragment_named fs t
found_at [] t = refl
found_at (f ∷ fs) t = find_or (bytes_eq t f.name) f fs (first_at (map (λ (g : Fragment). g.name) fs) t)
    (fragment_named fs t) (found_at fs t)

pub found_in : (now items read : List Fragment) (names : List Text) (t : Text) (place : ℕ) (found : Option Fragment) →
    items ≡ now → names ≡ map (λ (f : Fragment). f.name) items → Some place ≡ first_at names t →
    read ≡ items → found ≡ slice_get read place → found ≡ fragment_named now t
found_in now items read names t place found en em ep er ef =
    ef ∙ ap (λ fs. slice_get fs place) er ∙ ap (option_and_then (slice_get items)) (ep ∙ ap (λ ns. first_at ns t) em)
    ∙ found_at items t ∙ ap (λ fs. fragment_named fs t) en

pub not_in : (now items : List Fragment) (names : List Text) (t : Text) → items ≡ now →
    names ≡ map (λ (f : Fragment). f.name) items → None ≡ first_at names t → None ≡ fragment_named now t
not_in now items names t en em ep = ap (option_and_then (slice_get items)) (ep ∙ ap (λ ns. first_at ns t) em)
    ∙ found_at items t ∙ ap (λ fs. fragment_named fs t) en

-- ---- what is found at a place

then_or : {X Y : Type 0} (f : X → Option Y) (b : Bool) (x : X) (o : Option X) (p : Option Y) → option_and_then f o ≡ p →
    (if b then f x else p) ≡ option_and_then f (if b then Some x else o)
then_or f true x o p h = refl
then_or f false x o p h = sym h

flat_or : (f : VarDef → Option Bool) (b : Bool) (v : VarDef) (bs : List (Option Bool)) (o : Option ℕ)
    (p : Option Bool) → option_and_then (λ k. option_flatten (slice_get bs k)) o ≡ p →
    option_and_then (λ k. option_flatten (slice_get (f v ∷ bs) k)) (if b then Some zero else option_map suc o)
    ≡ (if b then f v else p)
flat_or f true v bs o p h = refl
flat_or f false v bs (Some k) p h = h
flat_or f false v bs None p h = h

-- what a function gives of the first variable of a name
pub of_first : (f : VarDef → Option Bool) (vs : List VarDef) (t : Text) →
    option_and_then (λ k. option_flatten (slice_get (map f vs) k)) (first_at (map (λ (v : VarDef). v.name) vs) t)
    ≡ option_and_then f (find (λ (v : VarDef). bytes_eq t v.name) vs)
of_first f [] t = refl
of_first f (v ∷ vs) t =
    flat_or f (bytes_eq t v.name) v (map f vs) (first_at (map (λ (v : VarDef). v.name) vs) t) _ (of_first f vs t)
    ∙ then_or f (bytes_eq t v.name) v (find (λ (v : VarDef). bytes_eq t v.name) vs) _ refl

-- the place of the first fragment of a name, or their number
count_or : (b : Bool) (o : Option ℕ) (n more : ℕ) → more ≡ 1 + n →
    unwrap_or (if b then Some zero else option_map suc o) more ≡ (if b then 0 else 1 + unwrap_or o n)
count_or true o n more h = refl
count_or false (Some k) n more h = omega arith
count_or false None n more h = h

pub first_or_count : (fs : List Fragment) (t : Text) →
    unwrap_or (first_at (map (λ (f : Fragment). f.name) fs) t) (length fs) ≡ place_of fs t
first_or_count fs t =
    is_position_or_len (λ gs. unwrap_or (first_at (map (λ (f : Fragment). f.name) gs) t) (length gs))
    (λ (f : Fragment). bytes_eq t f.name) refl
    (λ g gs. count_or (bytes_eq t g.name) (first_at (map (λ (f : Fragment). f.name) gs) t) (length gs) (length (g ∷ gs))
    (omega arith)) fs

pub place_or_count : (now items : List Fragment) (names : List Text) (t : Text) (o : Option ℕ) (count : ℕ) →
    items ≡ now → names ≡ map (λ (f : Fragment). f.name) items → o ≡ first_at names t → count ≡ length items →
    unwrap_or o count ≡ place_of now t
place_or_count now items names t o count en em eo ec =
    ap (λ p. unwrap_or p count) eo ∙ ap (λ ns. unwrap_or (first_at ns t) count) em
    ∙ ap (unwrap_or (first_at (map (λ (f : Fragment). f.name) items) t)) ec
    ∙ first_or_count items t ∙ ap (λ fs. place_of fs t) en

-- what the variable of a name decides
module _ (now : Scope) (names : List Text) (booleans : List (Option Bool)) (t : Text)
    (are : AreVariables now.values now.vars names booleans) where
  abbrev pub decided : Option Bool
  decided = option_and_then (variable_bool now.values) (find (λ (v : VarDef). bytes_eq t v.name) now.vars)

  named_at : (o : Option ℕ) → o ≡ first_at names t → option_and_then (λ k. option_flatten (slice_get booleans k)) o
      ≡ decided
  named_at o e =
      ap (option_and_then (λ k. option_flatten (slice_get booleans k))) (e ∙ ap (λ ns. first_at ns t) are.names_are)
      ∙ ap (λ bs. option_and_then (λ k. option_flatten (slice_get bs k))
      (first_at (map (λ (v : VarDef). v.name) now.vars) t)) are.booleans_are
      ∙ of_first (variable_bool now.values) now.vars t

  pub some_named : (place : ℕ) (read : List (Option Bool)) (found : Option Bool) → Some place ≡ first_at names t →
      read ≡ booleans → found ≡ option_flatten (slice_get read place) → found ≡ decided
  some_named place read found e er ef = ef ∙ ap (λ bs. option_flatten (slice_get bs place)) er ∙ named_at (Some place) e

  pub none_named : None ≡ first_at names t → None ≡ decided
  none_named e = named_at None e
