-- The index of a batch's cohorts, which gives the place of each.
use Rattle.std.proofs.Common.{if◌then◌else◌, ◌≡◌, ◌∙◌, ℕ, ◌<◌, ◌+◌, Bool, true, false, ◌||◌, ◌==◌, Option, Some, None}
use Rattle.std.proofs.Common.{is_some}
use Rattle.std.proofs.Common.{List, [], ◌∷◌, ◌++◌, length, eq-eqb, refl, sym, ap, subst, arith, inl, inr}
use Rattle.std.proofs.lemmas.Bool.{cases_eq, eqb-true}
use Rattle.std.specs.BTreeMap.{BTreeMap, get}
use Rattle.std.specs.List.{position_from}
use Rattle.std.specs.Prelude.{IfSome}
use Rattle.std.specs.Ordering.{nat_cmp, is_eq}
use Rattle.std.proofs.Common.{Ordering, Less, Equal, Greater}
use Rattle.std.proofs.lemmas.Map.Lookups.{exact_unsigned}
use Rattle.cohort_map.specs.Choice.{is_among, ArePlaced}

both_false : (a b : Bool) → (a || b) ≡ false → (a ≡ false) × (b ≡ false)
both_false true b h = absurd (cc)
both_false false b h = (refl, h)

found_by : (b : Bool) (i : ℕ) (rest : Option ℕ) (among : Bool) → is_some rest ≡ among
    → is_some (if b then Some i else rest) ≡ (b || among)
found_by true i rest among is = refl
found_by false i rest among is = is

pub placed_among : (c i : ℕ) (cs : List ℕ) → is_some (position_from (λ d. d == c) i cs) ≡ is_among c cs
placed_among c i [] = refl
placed_among c i (d ∷ cs) =
    found_by (d == c) i (position_from (λ e. e == c) (i + 1) cs) (is_among c cs) (placed_among c (i + 1) cs)

within_by : (b : Bool) (i p n : ℕ) (rest : Option ℕ) → (if b then Some i else rest) ≡ Some p → i < n
    → (rest ≡ Some p → p < n) → p < n
within_by true i p n rest is within more = let same : i ≡ p = cc in omega arith
within_by false i p n rest is within more = more is

pub placed_within : (c i p n : ℕ) (cs : List ℕ) → position_from (λ d. d == c) i cs ≡ Some p → n ≡ i + length cs → p < n
placed_within c i p n [] is long = absurd (cc)
placed_within c i p n (d ∷ cs) is long =
    within_by (d == c) i p n (position_from (λ e. e == c) (i + 1) cs) is (omega arith)
    (λ rest. placed_within c (i + 1) p n cs rest (omega arith))

pub place_within : (c : ℕ) (o : Option ℕ) (cs : List ℕ) → o ≡ position_from (λ d. d == c) 0 cs
    → IfSome o (λ p. p < length cs)
place_within c None cs is = tt
place_within c (Some p) cs is = placed_within c 0 p (length cs) cs (sym is) (omega arith)

last_place : (cs : List ℕ) (c i n : ℕ) → is_among c cs ≡ false → n ≡ i + length cs
    → position_from (λ d. d == c) i (cs ++ c ∷ []) ≡ Some n
last_place [] c i n none long =
    let same : i ≡ n = omega arith in
    rw (eq-eqb c c refl) (ap (λ (k : ℕ). Some k) same)
last_place (d ∷ cs) c i n none long =
    let parts = both_false (d == c) (is_among c cs) none in
    rw parts.0 (last_place cs c (i + 1) n parts.1 (omega arith))

not_equal : (b : Bool) (c k : ℕ) → (c == k) ≡ b → (k ≡ c → ⊥) → b ≡ false
not_equal true c k is apart = absurd (apart (sym (eqb-true c k is)))
not_equal false c k is apart = refl

same_if : (b : Bool) (i : ℕ) (x y : Option ℕ) → x ≡ y → (if b then Some i else x) ≡ (if b then Some i else y)
same_if true i x y same = refl
same_if false i x y same = same

other_place : (cs : List ℕ) (c k i : ℕ) → (k ≡ c → ⊥)
    → position_from (λ d. d == k) i (cs ++ c ∷ []) ≡ position_from (λ d. d == k) i cs
other_place [] c k i apart = rw (not_equal (c == k) c k refl apart) refl
other_place (d ∷ cs) c k i apart =
    same_if (d == k) i (position_from (λ e. e == k) (i + 1) (cs ++ c ∷ [])) (position_from (λ e. e == k) (i + 1) cs)
    (other_place cs c k (i + 1) apart)

pub placed_more : (cs : List ℕ) (c : ℕ) (before after : BTreeMap ℕ ℕ) → is_among c cs ≡ false
    → ((k : ℕ) → (k ≡ c → ⊥) → get nat_cmp after k ≡ get nat_cmp before k) → get nat_cmp after c ≡ Some (length cs)
    → ArePlaced cs before → ArePlaced (cs ++ c ∷ []) after
placed_more cs c before after none others there placed k =
    elim (cases_eq k c) [
      | inl same ↦ subst (λ (j : ℕ). get nat_cmp after j ≡ position_from (λ d. d == j) 0 (cs ++ c ∷ [])) (sym same)
          (there ∙ sym (last_place cs c 0 (length cs) none (omega arith)))
      | inr apart ↦ others k apart ∙ placed k ∙ sym (other_place cs c k 0 apart)
    ]

-- ---- an insert

tied_not : (c k : ℕ) (o : Ordering) → nat_cmp c k ≡ o → (k ≡ c → ⊥) → is_eq o ≡ false
tied_not c k Less is apart = refl
tied_not c k Equal is apart = absurd (apart (sym (exact_unsigned c k is)))
tied_not c k Greater is apart = refl

pub not_tied : (c k : ℕ) → (k ≡ c → ⊥) → is_eq (nat_cmp c k) ≡ false
not_tied c k = tied_not c k (nat_cmp c k) refl
