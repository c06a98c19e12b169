-- Where an element goes among those in order.
use Rattle.std.proofs.Common.{
  ◌≡◌,
  ◌∙◌,
  ◌<◌,
  ◌+◌,
  sym,
  ap,
  arith,
  refl,
  true,
  false,
  ℕ,
  suc,
  List,
  [],
  ◌∷◌,
  ◌++◌,
  length,
  map,
  take,
  drop,
  get_or,
  append_assoc,
}
use Rattle.std.proofs.Math.Seq.{drop-cons, take-suc}
use Rattle.std.specs.List.{take-map}
use Rattle.std.proofs.lemmas.List.{drop-map, get_or-map, map-append, length-map}
use Rattle.std.specs.List.{insert}
use Rattle.std.specs.Ordering.{is_le}
use Rattle.std.specs.declared.cmp.Ordering.{Ordering}
use Rattle.scalar_val.specs.Ordered.{placed, ordered}

-- the list from a place on
pub from_place : {X : Type 0} (xs : List X) (i k : ℕ) (x : X) → i < length xs → k ≡ i + 1 → x ≡ get_or xs i x →
    drop i xs ≡ x ∷ drop k xs
from_place xs i k x lt ek e = let s : suc i ≡ k = omega (arith, ek) in drop-cons xs i x lt
    ∙ ap (λ z. z ∷ drop (suc i) xs) (sym e) ∙ ap (λ j. x ∷ drop j xs) s

-- and up to it
pub up_to_place : {X : Type 0} (xs : List X) (i k : ℕ) (x : X) → i < length xs → k ≡ i + 1 → x ≡ get_or xs i x →
    take k xs ≡ take i xs ++ x ∷ []
up_to_place xs i k x lt ek e = let s : k ≡ suc i = omega (arith, ek) in ap (λ j. take j xs) s ∙ take-suc xs i x lt
    ∙ ap (λ z. take i xs ++ z ∷ []) (sym e)

module _ {X : Type 0} (cmp : X → X → Ordering) where
  stops : (x y : X) (zs r : List X) → zs ≡ y ∷ r → is_le (cmp x y) ≡ true → placed cmp x zs ≡ x ∷ zs
  stops x y zs r e le = rw (e, le) refl

  passes : (x y : X) (zs r : List X) → zs ≡ y ∷ r → is_le (cmp x y) ≡ false → placed cmp x zs ≡ y ∷ placed cmp x r
  passes x y zs r e le = rw (e, le) refl

  -- it goes here
  pub placed_here : (x y : X) (ys w : List X) (i : ℕ) → i < length ys → y ≡ get_or ys i y → is_le (cmp x y) ≡ true →
      take i ys ++ placed cmp x (drop i ys) ≡ w → take i ys ++ x ∷ drop i ys ≡ w
  placed_here x y ys w i lt e le h = sym (ap (λ r. take i ys ++ r)
      (stops x y (drop i ys) (drop (i + 1) ys) (from_place ys i (i + 1) y lt refl e) le)) ∙ h

  -- it goes further behind
  pub placed_behind : (x y : X) (ys w : List X) (i : ℕ) → i < length ys → y ≡ get_or ys i y → is_le (cmp x y) ≡ false →
      take i ys ++ placed cmp x (drop i ys) ≡ w → take (i + 1) ys ++ placed cmp x (drop (i + 1) ys) ≡ w
  placed_behind x y ys w i lt e le h =
      ap (λ r. r ++ placed cmp x (drop (i + 1) ys)) (up_to_place ys i (i + 1) y lt refl e)
      ∙ append_assoc (take i ys) (y ∷ []) (placed cmp x (drop (i + 1) ys))
      ∙ ap (λ r. take i ys ++ r)
      (sym (passes x y (drop i ys) (drop (i + 1) ys) (from_place ys i (i + 1) y lt refl e) le)) ∙ h

  -- one more of the last ones
  ordered_more : (xs : List X) (i k : ℕ) (x : X) → i < length xs → k ≡ i + 1 → x ≡ get_or xs i x →
      ordered cmp (drop i xs) ≡ placed cmp x (ordered cmp (drop k xs))
  ordered_more xs i k x lt ek e = ap (ordered cmp) (from_place xs i k x lt ek e)

  mapped_insert : {Y : Type 0} (f : Y → X) (ys : List Y) (i : ℕ) (y : Y) →
      map f (insert ys i y) ≡ take i (map f ys) ++ f y ∷ drop i (map f ys)
  mapped_insert f ys i y = map-append f (take i ys) (y ∷ drop i ys) ∙ rw (take-map f i ys, drop-map f i ys) refl

  pub inserted : {Y : Type 0} (f : Y → X) (xs : List X) (before read after : List Y) (y : Y) (at i k : ℕ) →
      after ≡ insert before at y → read ≡ before → take at (map f read) ++ f y ∷ drop at (map f read)
      ≡ placed cmp (f y) (map f read) →
      map f before ≡ ordered cmp (drop k xs) → i < length xs → k ≡ i + 1 → f y ≡ get_or xs i (f y) →
      map f after ≡ ordered cmp (drop i xs)
  inserted f xs before read after y at i k ea er ep eb lt ek ey =
      ap (map f) ea ∙ mapped_insert f before at y ∙ ap (λ ys. take at (map f ys) ++ f y ∷ drop at (map f ys)) (sym er)
      ∙ ep ∙ ap (λ ys. placed cmp (f y) (map f ys)) er
      ∙ ap (placed cmp (f y)) eb ∙ sym (ordered_more xs i k (f y) lt ek ey)

pub at_mapped : {Y X : Type 0} (f : Y → X) (ps : List Y) (i : ℕ) (p : Y) → i < length ps → p ≡ get_or ps i p →
    f p ≡ get_or (map f ps) i (f p)
at_mapped f ps i p lt e = ap f e ∙ sym (get_or-map f ps i p (f p) lt)

pub below_mapped : {Y X : Type 0} (f : Y → X) (ps : List Y) (i : ℕ) → i < length ps → i < length (map f ps)
below_mapped f ps i lt = omega (arith, length-map ps f)

-- ---- lists that are the same

pub same_more : {Y X : Type 0} (f : Y → X) (a b : List Y) (i : ℕ) (x y : Y) → i < length a → length a ≡ length b →
    x ≡ get_or a i x → y ≡ get_or b i y → f x ≡ f y →
    take i (map f a) ≡ take i (map f b) → take (i + 1) (map f a) ≡ take (i + 1) (map f b)
same_more f a b i x y lt len ex ey e front =
    let below : i < length b = omega (arith, len) in
    up_to_place (map f a) i (i + 1) (f x) (below_mapped f a i lt) refl (at_mapped f a i x lt ex)
    ∙ ap (λ r. r ++ f x ∷ []) front ∙ ap (λ z. take i (map f b) ++ z ∷ []) e
    ∙ sym (up_to_place (map f b) i (i + 1) (f y) (below_mapped f b i below) refl (at_mapped f b i y below ey))

pub same_there : {Y X : Type 0} (f : Y → X) (a b : List Y) (i : ℕ) (x y : Y) → i < length a → length a ≡ length b →
    x ≡ get_or a i x → y ≡ get_or b i y → map f a ≡ map f b → f x ≡ f y
same_there f a b i x y lt len ex ey e =
    let below : i < length b = omega (arith, len) in
    at_mapped f a i x lt ex ∙ ap (λ zs. get_or zs i (f x)) e ∙ get_or-map f b i y (f x) below ∙ ap f (sym ey)
