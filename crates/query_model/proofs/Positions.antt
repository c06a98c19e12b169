-- Elements that pass a test: their places, and lists of which something holds throughout.
use Rattle.std.proofs.Common.{◌≡◌, ℕ, ◌+◌, zero, suc, Bool, true, false, ◌||◌, cond, List, [], ◌∷◌, ◌++◌, length, map, find, filter_map, position, slice_get, nat_lt, Option, Some, None, option_map, unwrap_or, refl, ap, sym, subst, ◌∙◌, arith}
use Rattle.std.specs.List.{cons_option, list_any, list_all, position_or_len, AllByRecursion}
use Rattle.std.proofs.lemmas.Bool.{and_from}
use Rattle.std.proofs.lemmas.Bool.Decides.{nat_tests}

pub below_next : (n : ℕ) → nat_lt 0 (suc n) ≡ true
below_next n = grind (arith, nat_tests)

next_below : (l n : ℕ) → nat_lt (suc l) (suc n) ≡ nat_lt l n
next_below l n = grind (arith, nat_tests)

next_below' : (l n : ℕ) → nat_lt (1 + l) (suc n) ≡ nat_lt l n
next_below' l n = grind (arith, nat_tests)

at_front : (n : ℕ) → cond {A = Option ℕ} (nat_lt 0 (suc n)) (Some 0) None ≡ Some 0
at_front n = rw (below_next n) refl

pub position_here : {X : Type 0} (p : X → Bool) (x : X) (xs : List X) → p x ≡ true → position p (x ∷ xs) ≡ Some 0
position_here p x xs h = rw h (at_front (length xs))

next : (b : Bool) (l : ℕ) → cond {A = Option ℕ} b (Some (1 + l)) None ≡ option_map suc (cond b (Some l) None)
next true l = ap (λ k. Some k) (omega arith)
next false l = refl

pub position_past : {X : Type 0} (p : X → Bool) (x : X) (xs : List X) → p x ≡ false → position p (x ∷ xs) ≡ option_map suc (position p xs)
position_past p x xs h = rw (h, next_below' (position_or_len p xs) (length xs)) (next (nat_lt (position_or_len p xs) (length xs)) (position_or_len p xs))

pub record PlacedAt {X : Type 0} (p : X → Bool) (xs : List X) (i : ℕ) : Type 0 where
  pub item : X
  pub there : slice_get xs i ≡ Some item
  pub passes : p item ≡ true
  pub first : find p xs ≡ Some item
  pub within : nat_lt i (length xs) ≡ true

pub some_is : {X : Type 0} (x y : X) → ◌≡◌ {A = Option X} (Some x) (Some y) → x ≡ y
some_is x y h = cc

pub not_some : {X : Type 0} (x : X) → ◌≡◌ {A = Option X} None (Some x) → ⊥
not_some x h = cc

pub placed_at : {X : Type 0} (p : X → Bool) (xs : List X) (i : ℕ) → position p xs ≡ Some i → PlacedAt p xs i
placed_at p [] i h = absurd (not_some i h)
placed_at p (x ∷ xs) i h = go (p x) refl (placed_at p xs)
  where
    later : (o : Option ℕ) → p x ≡ false → ((j : ℕ) → o ≡ Some j → PlacedAt p xs j) → option_map suc o ≡ Some i → PlacedAt p (x ∷ xs) i
    later None e more k = absurd (not_some i k)
    later (Some j) e more k =
        let r = more j refl in
        subst (λ n. PlacedAt p (x ∷ xs) n) (some_is (suc j) i k)
        (record { item = r.item; there = r.there; passes = r.passes; first = ap (λ b. cond b (Some x) (find p xs)) e ∙ r.first; within = next_below j (length xs) ∙ r.within })

    go : (b : Bool) → p x ≡ b → ((j : ℕ) → position p xs ≡ Some j → PlacedAt p xs j) → PlacedAt p (x ∷ xs) i
    go true e more =
        subst (λ n. PlacedAt p (x ∷ xs) n) (some_is 0 i (sym (position_here p x xs e) ∙ h))
        (record { item = x; there = refl; passes = e; first = ap (λ b. cond b (Some x) (find p xs)) e; within = below_next (length xs) })
    go false e more = later (position p xs) e more (sym (position_past p x xs e) ∙ h)

pub has_place : {X : Type 0} (p : X → Bool) (xs : List X) → list_any p xs ≡ true → (i : ℕ) × (position p xs ≡ Some i)
has_place p [] h = absurd (let q : false ≡ true = h in cc)
has_place p (x ∷ xs) h = go (p x) refl h (has_place p xs)
  where
    go : (b : Bool) → p x ≡ b → (b || list_any p xs) ≡ true → (list_any p xs ≡ true → (i : ℕ) × (position p xs ≡ Some i)) → (i : ℕ) × (position p (x ∷ xs) ≡ Some i)
    go true e k more = (0, position_here p x xs e)
    go false e k more = let r = more k in (suc r.0, position_past p x xs e ∙ ap (option_map suc) r.1)

-- the place or 0 is within
pub place_within : {X : Type 0} (p : X → Bool) (xs : List X) → list_any p xs ≡ true → nat_lt (unwrap_or (position p xs) 0) (length xs) ≡ true
place_within p xs h = let r = has_place p xs h in ap (λ o. nat_lt (unwrap_or o 0) (length xs)) r.1 ∙ (placed_at p xs r.0 r.1).within

-- the place or 0 is within where there is an element at all
pub some_place_within : {X : Type 0} (p : X → Bool) (xs : List X) → nat_lt 0 (length xs) ≡ true → nat_lt (unwrap_or (position p xs) 0) (length xs) ≡ true
some_place_within p xs h = go (position p xs) (λ i e. (placed_at p xs i e).within)
  where
    go : (o : Option ℕ) → ((i : ℕ) → o ≡ Some i → nat_lt i (length xs) ≡ true) → nat_lt (unwrap_or o 0) (length xs) ≡ true
    go None within = h
    go (Some i) within = within i refl

-- ---- what holds throughout

pub or_parts : (a b : Bool) → (a || b) ≡ false → (a ≡ false) × (b ≡ false)
or_parts true b h = absurd (let q : true ≡ false = h in cc)
or_parts false b h = (refl, h)

pub none_of : {X : Type 0} (p : X → Bool) (xs : List X) → list_any p xs ≡ false → AllByRecursion (λ x. p x ≡ false) xs
none_of p [] h = tt
none_of p (x ∷ xs) h = let r = or_parts (p x) (list_any p xs) h in (r.0, none_of p xs r.1)

pub each_at : {X : Type 0} (P : X → Type 0) (xs : List X) (i : ℕ) (x : X) → AllByRecursion P xs → slice_get xs i ≡ Some x → P x
each_at P [] i x all h = absurd (not_some x h)
each_at P (y ∷ ys) zero x all h = subst P (some_is y x h) all.0
each_at P (y ∷ ys) (suc i) x all h = each_at P ys i x all.1 h

pub each_found : {X : Type 0} (P : X → Type 0) (p : X → Bool) (xs : List X) (x : X) → AllByRecursion P xs → find p xs ≡ Some x → P x × (p x ≡ true)
each_found P p [] x all h = absurd (not_some x h)
each_found P p (y ∷ ys) x all h = go (p y) refl h (each_found P p ys x all.1)
  where
    go : (b : Bool) → p y ≡ b → cond b (Some y) (find p ys) ≡ Some x → (find p ys ≡ Some x → P x × (p x ≡ true)) → P x × (p x ≡ true)
    go true e k more = let s = some_is y x k in (subst P s all.0, ap p (sym s) ∙ e)
    go false e k more = more k

pub each_mapped : {X Y : Type 0} (P : X → Type 0) (Q : Y → Type 0) (f : X → Y) → ((x : X) → P x → Q (f x)) → (xs : List X) → AllByRecursion P xs → AllByRecursion Q (map f xs)
each_mapped P Q f s [] all = tt
each_mapped P Q f s (x ∷ xs) all = (s x all.0, each_mapped P Q f s xs all.1)

pub each_filtered : {X Y : Type 0} (P : X → Type 0) (Q : Y → Type 0) (f : X → Option Y) → ((x : X) → P x → (y : Y) → f x ≡ Some y → Q y) → (xs : List X) → AllByRecursion P xs → AllByRecursion Q (filter_map f xs)
each_filtered P Q f s [] all = tt
each_filtered {Y = Y} P Q f s (x ∷ xs) all = go (f x) (s x all.0) (each_filtered P Q f s xs all.1)
  where
    go : (o : Option Y) → ((y : Y) → o ≡ Some y → Q y) → AllByRecursion Q (filter_map f xs) → AllByRecursion Q (cons_option o (filter_map f xs))
    go None one more = more
    go (Some y) one more = (one y refl, more)

pub each_joined_all : {X : Type 0} (P : X → Type 0) (xs ys : List X) → AllByRecursion P xs → AllByRecursion P ys → AllByRecursion P (xs ++ ys)
each_joined_all P [] ys a b = b
each_joined_all P (x ∷ xs) ys a b = (a.0, each_joined_all P xs ys a.1 b)

pub all_from : {X : Type 0} (p : X → Bool) (xs : List X) → AllByRecursion (λ x. p x ≡ true) xs → list_all p xs ≡ true
all_from p [] all = refl
all_from p (x ∷ xs) all = and_from (p x) (list_all p xs) all.0 (all_from p xs all.1)
