-- Ascending lists after an insert and after a sweep.
use Rattle.std.proofs.Common.{◌≡◌, ℕ, ◌<◌, ◌≤◌, zero, suc, Bool, true, false, List, [], ◌∷◌, ◌++◌, length, get_or, take, drop, sym, subst, arith, ◌⊎◌, inl, inr, Ok, Err}
use Rattle.std.specs.List.{AllByRecursion, Contains, insert, items_where_true}
use Rattle.std.specs.List.Sorted.{IsBinarySearchResult}
use Rattle.std.specs.Ordering.{nat_cmp}
use Rattle.std.proofs.lemmas.List.{take-append-drop}
use Rattle.std.proofs.lemmas.List.Sorted.{searched}
use Rattle.std.proofs.lemmas.List.Elements.{All-from_recursion, Contains-append_left, Contains-append_right, Contains-append_cases}
use Rattle.place_list.specs.Places.{Ascends}

pub above_at : (n : ℕ) (ps : List ℕ) (k : ℕ) (d : ℕ) → AllByRecursion (λ q. n < q) ps → k < length ps → n < get_or ps k d
above_at n ps k d above within = All-from_recursion (λ q. n < q) ps above k d within

pub never_falls : (ps : List ℕ) → Ascends ps → (i j : ℕ) → i ≤ j → j < length ps → get_or ps i 0 ≤ get_or ps j 0
never_falls [] up i j order within = absurd (omega arith)
never_falls (p ∷ ps) up zero zero order within = omega arith
never_falls (p ∷ ps) up (suc i) zero order within = absurd (omega arith)
never_falls (p ∷ ps) up zero (suc j) order within =
    let less : p < get_or ps j 0 = above_at p ps j 0 up.0 (omega arith) in
    omega arith
never_falls (p ∷ ps) up (suc i) (suc j) order within = never_falls ps up.1 i j (omega arith) (omega arith)

all_insert : (P : ℕ → Type 0) (ps : List ℕ) (i p : ℕ) → AllByRecursion P ps → P p → AllByRecursion P (take i ps ++ p ∷ drop i ps)
all_insert P ps zero p all holds = (holds, all)
all_insert P [] (suc i) p all holds = (holds, tt)
all_insert P (q ∷ ps) (suc i) p all holds = (all.0, all_insert P ps i p all.1 holds)

all_above : (p : ℕ) (ps : List ℕ) → ((k : ℕ) → k < length ps → p < get_or ps k 0) → AllByRecursion (λ q. p < q) ps
all_above p [] above = tt
all_above p (q ∷ ps) above = (above 0 (omega arith), all_above p ps (λ k within. above (suc k) (omega arith)))

pub inserted : (ps : List ℕ) (i p : ℕ) → Ascends ps → i ≤ length ps → ((k : ℕ) → k < i → get_or ps k 0 < p)
    → ((k : ℕ) → i ≤ k → k < length ps → p < get_or ps k 0) → Ascends (take i ps ++ p ∷ drop i ps)
inserted ps zero p up within below above = (all_above p ps (λ k inside. above k (omega arith) inside), up)
inserted [] (suc i) p up within below above = absurd (omega arith)
inserted (q ∷ ps) (suc i) p up within below above =
    let less : q < p = below 0 (omega arith) in (
      all_insert (λ r. q < r) ps i p up.0 less,
      inserted ps i p up.1 (omega arith) (λ k before. below (suc k) (omega arith))
          (λ k after inside. above (suc k) (omega arith) (omega arith)),
    )

-- an insert where a search found no place
pub found_place : (ps slice : List ℕ) (p at : ℕ) → slice ≡ ps → Ascends ps
    → IsBinarySearchResult (λ y. nat_cmp y p) slice (Err at) → Ascends (insert ps at p)
found_place ps slice p at same up position =
    let found = searched ps p (Err at)
    (subst (λ (qs : List ℕ). IsBinarySearchResult (λ y. nat_cmp y p) qs (Err at)) same position) (never_falls ps up) in
    inserted ps at p up found.0 found.1 found.2

-- ---- what an insert adds

pub keeps_all : (ps : List ℕ) (i p q : ℕ) → Contains ps q → Contains (insert ps i p) q
keeps_all ps i p q has =
    let split : Contains (take i ps ++ drop i ps) q = subst (λ (qs : List ℕ). Contains qs q) (sym (take-append-drop i ps)) has in
    elim (Contains-append_cases (take i ps) (drop i ps) q split) [
      | inl front ↦ Contains-append_left (take i ps) (p ∷ drop i ps) q front
      | inr rest ↦ Contains-append_right (take i ps) (p ∷ drop i ps) q (Contains-append_right (p ∷ []) (drop i ps) q rest)
    ]

pub has_new : (ps : List ℕ) (i p : ℕ) → Contains (insert ps i p) p
has_new ps i p =
    let first : Contains (p ∷ drop i ps) p = (0, omega arith, λ _. p) in
    Contains-append_right (take i ps) (p ∷ drop i ps) p first

in_rest : (p q : ℕ) (ps : List ℕ) → Contains (p ∷ ps) q → Contains ps q ⊎ (p ≡ q)
in_rest p q ps (zero, within, is) = inr is
in_rest p q ps (suc k, within, is) = inl (k, omega arith, is)

whole : (ps : List ℕ) (i q : ℕ) → Contains (take i ps ++ drop i ps) q → Contains ps q
whole ps i q has = subst (λ (qs : List ℕ). Contains qs q) (take-append-drop i ps) has

only_rest : (ps : List ℕ) (i p q : ℕ) → Contains (drop i ps) q ⊎ (p ≡ q) → Contains ps q ⊎ (p ≡ q)
only_rest ps i p q (inl rest) = inl (whole ps i q (Contains-append_right (take i ps) (drop i ps) q rest))
only_rest ps i p q (inr same) = inr same

pub only_new : (ps : List ℕ) (i p q : ℕ) → Contains (insert ps i p) q → Contains ps q ⊎ (p ≡ q)
only_new ps i p q has =
    elim (Contains-append_cases (take i ps) (p ∷ drop i ps) q has) [
      | inl front ↦ inl (whole ps i q (Contains-append_left (take i ps) (drop i ps) q front))
      | inr rest ↦ only_rest ps i p q (in_rest p q (drop i ps) rest)
    ]

-- ---- a sweep

all_kept : (P : ℕ → Type 0) (bs : List Bool) (ps : List ℕ) → AllByRecursion P ps → AllByRecursion P (items_where_true bs ps)
all_kept P [] ps all = tt
all_kept P (b ∷ bs) [] all = tt
all_kept P (true ∷ bs) (p ∷ ps) all = (all.0, all_kept P bs ps all.1)
all_kept P (false ∷ bs) (p ∷ ps) all = all_kept P bs ps all.1

pub swept : (bs : List Bool) (ps : List ℕ) → Ascends ps → Ascends (items_where_true bs ps)
swept [] ps up = tt
swept (b ∷ bs) [] up = tt
swept (true ∷ bs) (p ∷ ps) up = (all_kept (λ q. p < q) bs ps up.0, swept bs ps up.1)
swept (false ∷ bs) (p ∷ ps) up = swept bs ps up.1

-- ---- the places from one on

rises : (ps : List ℕ) → Ascends ps → (i j : ℕ) → i < j → j < length ps → get_or ps i 0 < get_or ps j 0
rises [] up i j order within = absurd (omega arith)
rises (p ∷ ps) up i zero order within = absurd (omega arith)
rises (p ∷ ps) up zero (suc j) order within = above_at p ps j 0 up.0 (omega arith)
rises (p ∷ ps) up (suc i) (suc j) order within = rises ps up.1 i j (omega arith) (omega arith)

pub ascends_drop : (ps : List ℕ) (at : ℕ) → Ascends ps → Ascends (drop at ps)
ascends_drop ps zero up = up
ascends_drop [] (suc at) up = tt
ascends_drop (p ∷ ps) (suc at) up = ascends_drop ps at up.1

kept_drop : (ps : List ℕ) (at p q : ℕ) → ((k : ℕ) → k < at → get_or ps k 0 < p) → p ≤ q → Contains ps q
    → Contains (drop at ps) q
kept_drop ps zero p q below past has = has
kept_drop [] (suc at) p q below past has = has
kept_drop (r ∷ ps) (suc at) p q below past has =
    elim (in_rest r q ps has) [
      | inl rest ↦ kept_drop ps at p q (λ k less. below (suc k) (omega arith)) past rest
      | inr same ↦ (let less : r < p = below 0 (omega arith) in absurd (omega arith))
    ]

abbrev pub KeepsFrom : List ℕ → ℕ → List ℕ → Type 0
KeepsFrom ps p rest = (q : ℕ) → Contains ps q → p ≤ q → Contains rest q

-- where a search found the place
pub since_found : (ps slice : List ℕ) (p at : ℕ) → slice ≡ ps → Ascends ps
    → IsBinarySearchResult (λ y. nat_cmp y p) slice (Ok at) → KeepsFrom ps p (drop at ps)
since_found ps slice p at same up position q has past =
    let found = searched ps p (Ok at)
    (subst (λ (qs : List ℕ). IsBinarySearchResult (λ y. nat_cmp y p) qs (Ok at)) same position) (never_falls ps up) in
    kept_drop ps at p q
    (λ k less. let below : get_or ps k 0 < get_or ps at 0 = rises ps up k at less found.0 in let is = found.1 in omega arith)
    past has

-- where it found none
pub since_none : (ps slice : List ℕ) (p at : ℕ) → slice ≡ ps → Ascends ps
    → IsBinarySearchResult (λ y. nat_cmp y p) slice (Err at) → KeepsFrom ps p (drop at ps)
since_none ps slice p at same up position q has past =
    let found = searched ps p (Err at)
    (subst (λ (qs : List ℕ). IsBinarySearchResult (λ y. nat_cmp y p) qs (Err at)) same position) (never_falls ps up) in
    kept_drop ps at p q found.1 past has
