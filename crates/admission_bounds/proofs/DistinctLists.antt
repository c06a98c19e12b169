-- A list of distinct elements is no longer than one that has them all.
use Rattle.std.proofs.Common.{◌≡◌, ◌≤◌, Bool, true, false, ◌||◌, List, [], ◌∷◌, length, refl, ap, ◌∙◌, Ordering, Less, Equal, Greater}
use Rattle.std.proofs.lemmas.Map.Keys.{IsDistinct-from_sorted}
use Rattle.std.proofs.lemmas.Map.Made.{length-le_from_is_member}
use Rattle.std.specs.Cmp.{IsTotalOrder, eq_by_cmp_equiv}
use Rattle.std.specs.Ordering.{eq_by_cmp, is_eq, match_ordering, ordering_reverse}
use Rattle.std.specs.Set.{is_member}
use Rattle.std.specs.List.{AllByRecursion}
use Rattle.std.specs.List.Sorted.{IsStrictlySortedBy}
use Rattle.scalar_val.specs.Ordered.{included, distinct_in_order}

module _ {X : Type 0} (cmp : X → X → Ordering) (total : IsTotalOrder cmp) where
  abbrev Below : X → List X → Type 0
  Below x ys = AllByRecursion (λ y. cmp x y ≡ Less) ys

  below_included : (w x : X) (ys : List X) → cmp w x ≡ Less → Below w ys → Below w (included cmp x ys)
  below_included w x [] h all = (h, tt)
  below_included w x (y ∷ ys) h all = go (cmp x y) (below_included w x ys h all.1)
    where
      go : (o : Ordering) → Below w (included cmp x ys) → Below w (match_ordering o (x ∷ y ∷ ys) (y ∷ ys) (y ∷ included cmp x ys))
      go Less more = (h, all)
      go Equal more = all
      go Greater more = (all.0, more)

  below_all : (x y : X) (ys : List X) → cmp x y ≡ Less → Below y ys → Below x ys
  below_all x y [] h all = tt
  below_all x y (z ∷ zs) h all = (total.trans x y z h all.0, below_all x y zs h all.1)

  sorted_included : (x : X) (ys : List X) → IsStrictlySortedBy cmp ys → IsStrictlySortedBy cmp (included cmp x ys)
  unfolding IsStrictlySortedBy
  sorted_included x [] sorted = (tt, tt)
  sorted_included x (y ∷ ys) sorted = go (cmp x y) refl (sorted_included x ys sorted.1)
    where
      go : (o : Ordering) → cmp x y ≡ o → IsStrictlySortedBy cmp (included cmp x ys) → IsStrictlySortedBy cmp (match_ordering o (x ∷ y ∷ ys) (y ∷ ys) (y ∷ included cmp x ys))
      go Less e more = ((e, below_all x y ys e sorted.0), sorted)
      go Equal e more = sorted
      go Greater e more = (below_included y x ys (total.antisymm y x ∙ ap ordering_reverse e) sorted.0, more)

  sorted_distinct : (xs : List X) → IsStrictlySortedBy cmp (distinct_in_order cmp xs)
  unfolding IsStrictlySortedBy
  sorted_distinct [] = tt
  sorted_distinct (x ∷ xs) = sorted_included x (distinct_in_order cmp xs) (sorted_distinct xs)

  -- ---- what a list of distinct elements has

  -- some element ties with x
  abbrev pub has_tie : List X → X → Bool
  has_tie = is_member (eq_by_cmp cmp)

  or_swap : (a b c : Bool) → (a || (b || c)) ≡ true → (b || (a || c)) ≡ true
  or_swap true true c h = refl
  or_swap true false c h = refl
  or_swap false b c h = h

  or_more : (a b : Bool) → b ≡ true → (a || b) ≡ true
  or_more true b h = refl
  or_more false b h = h

  or_later : (a b c : Bool) → (b ≡ true → c ≡ true) → (a || b) ≡ true → (a || c) ≡ true
  or_later true b c f h = refl
  or_later false b c f h = f h

  tie_included : (q x : X) (ys : List X) → has_tie (included cmp x ys) q ≡ true → has_tie (x ∷ ys) q ≡ true
  tie_included q x [] h = h
  tie_included q x (y ∷ ys) h = go (cmp x y) (tie_included q x ys) h
    where
      go : (o : Ordering) → (has_tie (included cmp x ys) q ≡ true → has_tie (x ∷ ys) q ≡ true) → has_tie (match_ordering o (x ∷ y ∷ ys) (y ∷ ys) (y ∷ included cmp x ys)) q ≡ true → has_tie (x ∷ y ∷ ys) q ≡ true
      go Less more k = k
      go Equal more k = or_more (eq_by_cmp cmp q x) (has_tie (y ∷ ys) q) k
      go Greater more k = or_swap (eq_by_cmp cmp q y) (eq_by_cmp cmp q x) (has_tie ys q) (or_later (eq_by_cmp cmp q y) (has_tie (included cmp x ys) q) (has_tie (x ∷ ys) q) more k)

  tie_distinct : (q : X) (xs : List X) → has_tie (distinct_in_order cmp xs) q ≡ true → has_tie xs q ≡ true
  tie_distinct q [] h = h
  tie_distinct q (x ∷ xs) h = or_later (eq_by_cmp cmp q x) (has_tie (distinct_in_order cmp xs) q) (has_tie xs q) (tie_distinct q xs) (tie_included q x (distinct_in_order cmp xs) h)

  tie_kept : (q : X) (xs ys : List X) → AllByRecursion (λ x. has_tie ys x ≡ true) xs → has_tie xs q ≡ true → has_tie ys q ≡ true
  tie_kept q [] ys all h = absurd (let e : false ≡ true = h in cc)
  tie_kept q (x ∷ xs) ys all h = go (tie_kept q xs ys all.1) (eq_by_cmp cmp q x) refl h
    where
      tied : (o : Ordering) → cmp q x ≡ o → is_eq o ≡ true → (z : X) → eq_by_cmp cmp q z ≡ eq_by_cmp cmp x z
      tied Less e k z = absurd (let d : false ≡ true = k in cc)
      tied Greater e k z = absurd (let d : false ≡ true = k in cc)
      tied Equal e k z = ap is_eq (total.congr q x z e)

      same : (zs : List X) → ((z : X) → eq_by_cmp cmp q z ≡ eq_by_cmp cmp x z) → has_tie zs q ≡ has_tie zs x
      same [] f = refl
      same (z ∷ zs) f = ap (λ b. b || has_tie zs q) (f z) ∙ ap (λ b. eq_by_cmp cmp x z || b) (same zs f)

      go : (has_tie xs q ≡ true → has_tie ys q ≡ true) → (b : Bool) → eq_by_cmp cmp q x ≡ b → (b || has_tie xs q) ≡ true → has_tie ys q ≡ true
      go more true e k = same ys (tied (cmp q x) refl e) ∙ all.0
      go more false e k = more k

  pub distinct_few : (xs ys : List X) → AllByRecursion (λ x. has_tie ys x ≡ true) xs → length (distinct_in_order cmp xs) ≤ length ys
  distinct_few xs ys all =
      length-le_from_is_member (eq_by_cmp_equiv total) (distinct_in_order cmp xs) ys (IsDistinct-from_sorted cmp (distinct_in_order cmp xs) (sorted_distinct xs))
      (λ q h. tie_kept q xs ys all (tie_distinct q xs h))
