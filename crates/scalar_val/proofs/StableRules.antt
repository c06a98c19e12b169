-- A stable sort gives the one list in which each element is put in its place.
use Rattle.std.proofs.Common.{
  ◌≡◌,
  ◌∙◌,
  ◌<◌,
  ◌≤◌,
  sym,
  ap,
  refl,
  arith,
  ℕ,
  suc,
  Bool,
  true,
  false,
  true≢false,
  not,
  ◌&&◌,
  cond,
  if◌then◌else◌,
  List,
  [],
  ◌∷◌,
  length,
  map,
  get_or,
  filter,
}
use Rattle.std.specs.Cmp.{IsTotalOrder, IsStrictWeakOrder}
use Rattle.std.specs.List.Sorted.{IsSortedBy, IsStableBy, ties}
use Rattle.std.specs.Ordering.{is_le, is_lt, ordering_reverse}
use Rattle.std.specs.declared.cmp.Ordering.{Ordering}
use Rattle.std.specs.declared.cmp.Ordering.TheVariants.{Less, Equal, Greater}
use Rattle.std.proofs.lemmas.Cmp.{on_total}
use Rattle.std.proofs.lemmas.List.Sorted.{ranks_by, sorted_far}
use Rattle.scalar_val.specs.Ordered.{placed, ordered}

turned : (r : Ordering) → is_lt (ordering_reverse r) ≡ not (is_le r)
turned Less = refl
turned Equal = refl
turned Greater = refl

both_not : (a b : Bool) → a ≡ false → b ≡ false → not a && not b ≡ true
both_not true b p q = absurd (true≢false p)
both_not false true p q = absurd (true≢false q)
both_not false false p q = refl

neither : (a b : Bool) → not a && not b ≡ true → (a ≡ false) × (b ≡ false)
neither true b h = absurd (true≢false (sym h))
neither false true h = absurd (true≢false (sym h))
neither false false h = (refl, refl)

module _ {X : Type 0} where
  one_kept : (x y : X) (l : List X) (a b : Bool) → (a ≡ true → b ≡ true → ⊥) →
      cond b (y ∷ cond a (x ∷ l) l) (cond a (x ∷ l) l) ≡ cond a (x ∷ cond b (y ∷ l) l) (cond b (y ∷ l) l)
  one_kept x y l true true h = absurd (h refl refl)
  one_kept x y l true false h = refl
  one_kept x y l false true h = refl
  one_kept x y l false false h = refl

  abbrev rest_of : List X → List X
  rest_of [] = []
  rest_of (x ∷ xs) = xs

  rest_kept : (y : X) (ys zs : List X) (b : Bool) → cond b (y ∷ ys) ys ≡ cond b (y ∷ zs) zs → ys ≡ zs
  rest_kept y ys zs true e = ap rest_of e
  rest_kept y ys zs false e = e

  kept_first : (y : X) (ys : List X) (b : Bool) → b ≡ true → cond b (y ∷ ys) ys ≡ y ∷ ys
  kept_first y ys true e = refl
  kept_first y ys false e = absurd (true≢false (sym e))

  not_empty : (y : X) (ys : List X) → [] ≡ y ∷ ys → ⊥
  not_empty y ys e = cc

module _ {Y : Type 0} (cmp : Y → Y → Ordering) (total : IsTotalOrder cmp) where
  abbrev lt : Y → Y → Bool
  lt x y = is_lt (cmp x y)

  weak : IsStrictWeakOrder lt
  weak = ranks_by total (λ x. x)

  after : (x y : Y) → lt y x ≡ not (is_le (cmp x y))
  after x y = ap is_lt (total.antisymm y x) ∙ turned (cmp x y)

  -- what holds of both ways that a step can go
  either_way : (P : List Y → Type 0) (x y : Y) (ys : List Y) → (lt y x ≡ false → P (x ∷ y ∷ ys)) →
      (lt y x ≡ true → P (y ∷ placed cmp x ys)) → P (placed cmp x (y ∷ ys))
  either_way P x y ys stops passes = by (is_le (cmp x y)) refl
    where
      by : (b : Bool) → is_le (cmp x y) ≡ b → P (if b then x ∷ y ∷ ys else y ∷ placed cmp x ys)
      by true e = stops (after x y ∙ ap not e)
      by false e = passes (after x y ∙ ap not e)

  -- ---- in ascending order

  abbrev NoneBelow : Y → List Y → Type 0
  NoneBelow x [] = Unit {0}
  NoneBelow x (y ∷ ys) = (lt y x ≡ false) × NoneBelow x ys

  abbrev Ascends : List Y → Type 0
  Ascends [] = Unit {0}
  Ascends (y ∷ ys) = NoneBelow y ys × Ascends ys

  none_below_from : (x : Y) (ys : List Y) → ((k : ℕ) → k < length ys → lt (get_or ys k x) x ≡ false) → NoneBelow x ys
  none_below_from x [] h = tt
  none_below_from x (y ∷ ys) h = (h 0 (omega arith), none_below_from x ys (λ k l. h (suc k) (omega arith)))

  ascends_from : (ys : List Y) → ((i j : ℕ) (d : Y) → i ≤ j → j < length ys →
      lt (get_or ys j d) (get_or ys i d) ≡ false) → Ascends ys
  ascends_from [] h = tt
  ascends_from (y ∷ ys) h = (
    none_below_from y ys (λ k l. h 0 (suc k) y (omega arith) (omega arith)),
    ascends_from ys
        (λ i j d le l. h (suc i) (suc j) d (omega arith) (omega arith)),
  )

  none_below_lower : (x y : Y) (ys : List Y) → lt y x ≡ false → NoneBelow y ys → NoneBelow x ys
  none_below_lower x y [] e h = tt
  none_below_lower x y (z ∷ zs) e h = (weak.chain z y x h.0 e, none_below_lower x y zs e h.1)

  none_below_placed : (x y : Y) (ys : List Y) → lt x y ≡ false → NoneBelow y ys → NoneBelow y (placed cmp x ys)
  none_below_placed x y [] e h = (e, tt)
  none_below_placed x y (z ∷ zs) e h = either_way (NoneBelow y) x z zs (λ _. (e, h))
      (λ _. (h.0, none_below_placed x y zs e h.1))

  placed_ascends : (x : Y) (ys : List Y) → Ascends ys → Ascends (placed cmp x ys)
  placed_ascends x [] h = (tt, tt)
  placed_ascends x (y ∷ ys) h = either_way Ascends x y ys (λ e. ((e, none_below_lower x y ys e h.0), h))
      (λ e. (none_below_placed x y ys (weak.one_way y x e) h.0, placed_ascends x ys h.1))

  ordered_ascends : (ys : List Y) → Ascends (ordered cmp ys)
  ordered_ascends [] = tt
  ordered_ascends (y ∷ ys) = placed_ascends y (ordered cmp ys) (ordered_ascends ys)

  -- ---- those that tie stay in their order

  never_less : (x : Y) → lt x x ≡ false
  never_less x = by (lt x x) refl
    where
      by : (b : Bool) → lt x x ≡ b → lt x x ≡ false
      by true e = weak.one_way x x e
      by false e = e

  abbrev kept : Y → List Y → List Y
  kept t = filter (ties lt t)

  -- what ties with both makes them tie
  no_third : (t x y : Y) → lt y x ≡ true → ties lt t x ≡ true → ties lt t y ≡ true → ⊥
  no_third t x y h p q = true≢false (sym h ∙ weak.chain y t x (neither (lt t y) (lt y t) q).1
      (neither (lt t x) (lt x t) p).0)

  placed_kept : (t x : Y) (ys : List Y) → kept t (placed cmp x ys) ≡ kept t (x ∷ ys)
  placed_kept t x [] = refl
  placed_kept t x (y ∷ ys) = either_way (λ zs. kept t zs ≡ kept t (x ∷ y ∷ ys)) x y ys (λ _. refl)
      (λ e. ap (λ zs. cond (ties lt t y) (y ∷ zs) zs) (placed_kept t x ys)
      ∙ one_kept x y (kept t ys) (ties lt t x) (ties lt t y) (no_third t x y e))

  ordered_kept : (t : Y) (ys : List Y) → kept t (ordered cmp ys) ≡ kept t ys
  ordered_kept t [] = refl
  ordered_kept t (y ∷ ys) = placed_kept t y (ordered cmp ys)
      ∙ ap (λ zs. cond (ties lt t y) (y ∷ zs) zs) (ordered_kept t ys)

  -- ---- both together leave one list

  -- what ties with one of a list isn't below what none of the list is below
  tie_not_below : (t z u : Y) (ws r : List Y) → NoneBelow z ws → kept t ws ≡ u ∷ r → lt t z ≡ false
  tie_not_below t z u [] r h e = absurd (not_empty u r e)
  tie_not_below t z u (w ∷ ws) r h e = by (ties lt t w) refl (tie_not_below t z u ws r h.1)
    where
      by : (b : Bool) → ties lt t w ≡ b → (kept t ws ≡ u ∷ r → lt t z ≡ false) → lt t z ≡ false
      by true p later = weak.chain t w z (neither (lt t w) (lt w t) p).0 h.0
      by false p later = later (sym (ap (λ b. cond b (w ∷ kept t ws) (kept t ws)) p) ∙ e)

  own_kept : (y : Y) (ys : List Y) → kept y (y ∷ ys) ≡ y ∷ kept y ys
  own_kept y ys = kept_first y (kept y ys) (ties lt y y) (both_not (lt y y) (lt y y) (never_less y) (never_less y))

  one_list : (ys zs : List Y) → Ascends ys → Ascends zs → ((t : Y) → kept t ys ≡ kept t zs) → ys ≡ zs
  one_list [] [] a b h = refl
  one_list [] (z ∷ zs) a b h = absurd (not_empty z (kept z zs) (h z ∙ own_kept z zs))
  one_list (y ∷ ys) [] a b h = absurd (not_empty y (kept y ys) (sym (h y) ∙ own_kept y ys))
  one_list (y ∷ ys) (z ∷ zs) a b h =
      let y_high : lt y z ≡ false = tie_not_below y z y (z ∷ zs) (kept y ys) (never_less z, b.0)
      (sym (h y) ∙ own_kept y ys) in
      let z_high : lt z y ≡ false = tie_not_below z y z (y ∷ ys) (kept z zs) (never_less y, a.0)
      (h z ∙ own_kept z zs) in
      let same : y ≡ z = ap (λ l. get_or l 0 y) (sym (own_kept y ys) ∙ h y
      ∙ kept_first z (kept y zs) (ties lt y z) (both_not (lt y z) (lt z y) y_high z_high)) in
      let rest : ys ≡ zs = one_list ys zs a.1 b.1
      (λ t. rest_kept z (kept t ys) (kept t zs) (ties lt t z)
      (ap (λ x. cond (ties lt t x) (x ∷ kept t ys) (kept t ys)) (sym same) ∙ h t)) in
      ap (λ x. x ∷ ys) same ∙ ap (λ l. z ∷ l) rest

  stable_is_ordered : (xs ys : List Y) → IsSortedBy lt ys → IsStableBy lt xs ys → ys ≡ ordered cmp xs
  stable_is_ordered xs ys up stable =
      one_list ys (ordered cmp xs) (ascends_from ys (sorted_far lt weak ys up)) (ordered_ascends xs)
      (λ t. stable t ∙ sym (ordered_kept t xs))

-- ---- elements that are seen by a function

module _ {X Y : Type 0} (f : Y → X) (cmp : X → X → Ordering) where
  map_placed : (y : Y) (ys : List Y) → map f (placed (λ a b. cmp (f a) (f b)) y ys) ≡ placed cmp (f y) (map f ys)
  map_placed y [] = refl
  map_placed y (z ∷ zs) = by (is_le (cmp (f y) (f z))) (map_placed y zs)
    where
      by : (b : Bool) → map f (placed (λ a b. cmp (f a) (f b)) y zs) ≡ placed cmp (f y) (map f zs)
          → map f (if b then y ∷ z ∷ zs else z ∷ placed (λ a b. cmp (f a) (f b)) y zs)
          ≡ (if b then f y ∷ f z ∷ map f zs else f z ∷ placed cmp (f y) (map f zs))
      by true later = refl
      by false later = ap (λ l. f z ∷ l) later

  map_ordered : (ys : List Y) → map f (ordered (λ a b. cmp (f a) (f b)) ys) ≡ ordered cmp (map f ys)
  map_ordered [] = refl
  map_ordered (y ∷ ys) = map_placed y (ordered (λ a b. cmp (f a) (f b)) ys) ∙ ap (placed cmp (f y)) (map_ordered ys)

  -- what a stable sort by cmp of what f gives leaves
  pub sorted_by_placing : IsTotalOrder cmp → (xs ys : List Y) → IsSortedBy (λ a b. is_lt (cmp (f a) (f b))) ys →
      IsStableBy (λ a b. is_lt (cmp (f a) (f b))) xs ys → map f ys ≡ ordered cmp (map f xs)
  sorted_by_placing total xs ys up stable = ap (map f)
      (stable_is_ordered (λ a b. cmp (f a) (f b)) (on_total f total) xs ys up stable) ∙ map_ordered xs

length_placed : {X : Type 0} (cmp : X → X → Ordering) (x : X) (xs : List X) → length (placed cmp x xs) ≡ suc (length xs)
length_placed cmp x [] = refl
length_placed cmp x (y ∷ ys) = by (is_le (cmp x y)) (length_placed cmp x ys)
  where
    by : (b : Bool) → length (placed cmp x ys) ≡ suc (length ys) →
        length (if b then x ∷ y ∷ ys else y ∷ placed cmp x ys) ≡ suc (suc (length ys))
    by true later = refl
    by false later = ap suc later

pub length_ordered : {X : Type 0} (cmp : X → X → Ordering) (xs : List X) → length (ordered cmp xs) ≡ length xs
length_ordered cmp [] = refl
length_ordered cmp (x ∷ xs) = length_placed cmp x (ordered cmp xs) ∙ ap suc (length_ordered cmp xs)
