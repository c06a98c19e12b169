-- Names that repeat.
use Rattle.std.proofs.Common.{
  ◌≡◌,
  ◌∙◌,
  sym,
  ap,
  refl,
  ◌<◌,
  ◌+◌,
  drop,
  get_or,
  ℕ,
  Bool,
  true,
  false,
  List,
  [],
  ◌∷◌,
  ◌++◌,
  length,
  map,
}
use denote.Ref.{Bor}
use Rattle.std.specs.Prelude.{◌||◌}
use Rattle.std.specs.Bool.{MatchBool}
use Rattle.std.specs.List.{list_any}
use Rattle.std.specs.Str.{bytes_eq}
use Rattle.std.proofs.lemmas.List.{drop_more}
use Rattle.name_set.specs.Names.{Text, repeats}
use Rattle.name_set.proofs.NameRules.{turned}

-- one of the names is among those that were seen, or two of them are the same
abbrev pub some_again : List Text → List Text → Bool
some_again seen names = list_any (λ t. list_any (bytes_eq t) seen) names || repeats names

any_more : (t u : Text) (seen : List Text) → list_any (bytes_eq u) (seen ++ t ∷ [])
    ≡ (list_any (bytes_eq u) seen || bytes_eq t u)
any_more t u [] = or_none (bytes_eq u t) ∙ turned u t
  where
    or_none : (b : Bool) → (b || false) ≡ b
    or_none true = refl
    or_none false = refl
any_more t u (s ∷ seen) = ap (λ b. bytes_eq u s || b) (any_more t u seen)
    ∙ or_or (bytes_eq u s) (list_any (bytes_eq u) seen) (bytes_eq t u)
  where
    or_or : (a b c : Bool) → (a || (b || c)) ≡ ((a || b) || c)
    or_or true b c = refl
    or_or false b c = refl

any_either : (t : Text) (seen ns : List Text) → list_any (λ u. list_any (bytes_eq u) (seen ++ t ∷ [])) ns
    ≡ (list_any (λ u. list_any (bytes_eq u) seen) ns || list_any (bytes_eq t) ns)
any_either t seen [] = refl
any_either t seen (u ∷ us) =
    ap (λ b. b || list_any (λ v. list_any (bytes_eq v) (seen ++ t ∷ [])) us) (any_more t u seen)
    ∙ ap (λ b. (list_any (bytes_eq u) seen || bytes_eq t u) || b) (any_either t seen us)
    ∙ mixed (list_any (bytes_eq u) seen) (bytes_eq t u) (list_any (λ v. list_any (bytes_eq v) seen) us)
    (list_any (bytes_eq t) us)
  where
    mixed : (a b c d : Bool) → ((a || b) || (c || d)) ≡ ((a || c) || (b || d))
    mixed true b c d = refl
    mixed false true true d = refl
    mixed false true false d = refl
    mixed false false c d = refl

grouped : (a b c : Bool) → ((a || b) || c) ≡ (a || (b || c))
grouped true b c = refl
grouped false b c = refl

-- a name that wasn't seen is seen now
again_after : (t : Text) (seen ns : List Text) → list_any (bytes_eq t) seen ≡ false →
    some_again seen (t ∷ ns) ≡ some_again (seen ++ t ∷ []) ns
again_after t seen ns new =
    ap (λ b. (b || list_any (λ u. list_any (bytes_eq u) seen) ns) || (list_any (bytes_eq t) ns || repeats ns)) new
    ∙ sym (grouped (list_any (λ u. list_any (bytes_eq u) seen) ns) (list_any (bytes_eq t) ns) (repeats ns))
    ∙ sym (ap (λ b. b || repeats ns) (any_either t seen ns))

again_step : (first : Bool) (t : Text) (seen after ns : List Text) → first ≡ true →
    MatchBool first ((list_any (bytes_eq t) seen ≡ false) × (after ≡ seen ++ t ∷ []))
    ((list_any (bytes_eq t) seen ≡ true) × (after ≡ seen)) → some_again after ns ≡ some_again seen (t ∷ ns)
again_step true t seen after ns e h = ap (λ s. some_again s ns) h.1 ∙ sym (again_after t seen ns h.0)
again_step false t seen after ns e h = cc

pub again_step_at : (names : List (Bor Text)) (i : ℕ) (name : Bor Text) (first : Bool) (seen after : List Text) →
    i < length names → name ≡ get_or names i name → first ≡ true →
    MatchBool first ((list_any (bytes_eq name.now) seen ≡ false) × (after ≡ seen ++ name.now ∷ []))
    ((list_any (bytes_eq name.now) seen ≡ true) × (after ≡ seen)) →
    some_again after (map (λ n. n.now) (drop (i + 1) names)) ≡ some_again seen (map (λ n. n.now) (drop i names))
again_step_at names i name first seen after lt e new h =
    again_step first name.now seen after (map (λ n. n.now) (drop (i + 1) names)) new h
    ∙ ap (λ n. some_again seen (map (λ m. m.now) (n ∷ drop (i + 1) names))) e
    ∙ sym (ap (λ ns. some_again seen (map (λ n. n.now) ns)) (drop_more names i name lt))

pub none_again : (ns : List Text) → some_again [] ns ≡ repeats ns
none_again ns = ap (λ b. b || repeats ns) (none ns)
  where
    none : (ns : List Text) → list_any (λ u. list_any (bytes_eq u) []) ns ≡ false
    none [] = refl
    none (n ∷ ns) = none ns
