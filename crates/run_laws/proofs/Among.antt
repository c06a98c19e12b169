-- The items of a list.
use Rattle.std.proofs.Common.{◌≡◌, ◌⊎◌, inl, inr, ◌∙◌, sym, ap, refl, subst, ℕ, Bool, true, false, ◌&&◌, ◌||◌, cond, Some, None, Option, List, [], ◌∷◌, ◌++◌, map, filter, take, zero, suc}
use Rattle.std.specs.Option.{IfSome, is_some}
use Rattle.std.specs.List.{list_any, find, AllByRecursion}
use Rattle.run_laws.specs.Laws.{EachPair}

abbrev pub Among : {X : Type 0} → X → List X → Type 0
Among x [] = ⊥
Among x (y ∷ ys) = (x ≡ y) ⊎ Among x ys

pub among_left : {X : Type 0} (x : X) (xs ys : List X) → Among x xs → Among x (xs ++ ys)
among_left x [] ys a = absurd a
among_left x (z ∷ xs) ys (inl e) = inl e
among_left x (z ∷ xs) ys (inr a) = inr (among_left x xs ys a)

pub among_append : {X : Type 0} (x : X) (xs ys : List X) → Among x (xs ++ ys) → Among x xs ⊎ Among x ys
among_append x [] ys a = inr a
among_append x (z ∷ xs) ys (inl e) = inl (inl e)
among_append x (z ∷ xs) ys (inr a) = elim (among_append x xs ys a) [ inl b ↦ inl (inr b) | inr b ↦ inr b ]

pub among_map : {X Y : Type 0} (f : X → Y) (xs : List X) (y : Y) → Among y (map f xs) → (x : X) × Among x xs × (y ≡ f x)
among_map f [] y a = absurd a
among_map f (z ∷ xs) y (inl e) = (z, inl refl, e)
among_map f (z ∷ xs) y (inr a) = let r = among_map f xs y a in (r.0, inr r.1, r.2)

among_cond : {X : Type 0} (p : X → Bool) (x z : X) (xs ys : List X) (b : Bool) → p z ≡ b → ((Among x ys → Among x xs × (p x ≡ true))) → Among x (cond b (z ∷ ys) ys) → Among x (z ∷ xs) × (p x ≡ true)
among_cond p x z xs ys true e h (inl i) = (inl i, ap p i ∙ e)
among_cond p x z xs ys true e h (inr a) = (inr (h a).0, (h a).1)
among_cond p x z xs ys false e h a = (inr (h a).0, (h a).1)

pub among_filter : {X : Type 0} (p : X → Bool) (x : X) (xs : List X) → Among x (filter p xs) → Among x xs × (p x ≡ true)
among_filter p x [] a = absurd a
among_filter p x (z ∷ xs) a = among_cond p x z xs (filter p xs) (p z) refl (λ b. among_filter p x xs b) a

passing_cond : {X : Type 0} (x z : X) (ys : List X) (b : Bool) → (x ≡ z → b ≡ true) → (Among x ys) ⊎ (x ≡ z) → Among x (cond b (z ∷ ys) ys)
passing_cond x z ys true h (inl a) = inr a
passing_cond x z ys true h (inr e) = inl e
passing_cond x z ys false h (inl a) = a
passing_cond x z ys false h (inr e) = absurd (false_true (h e))
  where
    false_true : false ≡ true → ⊥
    false_true e = cc

pub among_passing : {X : Type 0} (p : X → Bool) (x : X) (xs : List X) → Among x xs → p x ≡ true → Among x (filter p xs)
among_passing p x [] a h = absurd a
among_passing p x (z ∷ xs) (inl e) h = passing_cond x z (filter p xs) (p z) (λ is. sym (ap p is) ∙ h) (inr e)
among_passing p x (z ∷ xs) (inr a) h = passing_cond x z (filter p xs) (p z) (λ is. sym (ap p is) ∙ h) (inl (among_passing p x xs a h))

pub among_take : {X : Type 0} (x : X) (n : ℕ) (xs : List X) → Among x (take n xs) → Among x xs
among_take x zero [] a = absurd a
among_take x zero (z ∷ xs) a = absurd a
among_take x (suc n) [] a = absurd a
among_take x (suc n) (z ∷ xs) (inl e) = inl e
among_take x (suc n) (z ∷ xs) (inr a) = inr (among_take x n xs a)

-- tests

pub or_true_left : (a b : Bool) → a ≡ true → (a || b) ≡ true
or_true_left true b h = refl
or_true_left false b h = absurd (cc)

pub or_true_right : (a b : Bool) → b ≡ true → (a || b) ≡ true
or_true_right true b h = refl
or_true_right false b h = h

pub or_true : (a b : Bool) → (a || b) ≡ true → (a ≡ true) ⊎ (b ≡ true)
or_true true b h = inl refl
or_true false b h = inr h

pub and_true : (a b : Bool) → (a && b) ≡ true → (a ≡ true) × (b ≡ true)
and_true true b h = (refl, h)
and_true false b h = absurd (cc)

pub and_both : (a b : Bool) → a ≡ true → b ≡ true → (a && b) ≡ true
and_both true b h i = i
and_both false b h i = absurd (cc)

pub not_true : (a : Bool) → (a ≡ true → ⊥) → a ≡ false
not_true true h = absurd (h refl)
not_true false h = refl

any_by : {X : Type 0} (p : X → Bool) (z : X) (xs : List X) (b : Bool) → p z ≡ b → (list_any p xs ≡ true → (x : X) × Among x xs × (p x ≡ true)) → (b || list_any p xs) ≡ true → (x : X) × Among x (z ∷ xs) × (p x ≡ true)
any_by p z xs true e h i = (z, inl refl, e)
any_by p z xs false e h i = let r = h i in (r.0, inr r.1, r.2)

pub any_among : {X : Type 0} (p : X → Bool) (xs : List X) → list_any p xs ≡ true → (x : X) × Among x xs × (p x ≡ true)
any_among p [] h = absurd (cc)
any_among p (z ∷ xs) h = any_by p z xs (p z) refl (λ i. any_among p xs i) h

pub among_any : {X : Type 0} (p : X → Bool) (x : X) (xs : List X) → Among x xs → p x ≡ true → list_any p xs ≡ true
among_any p x [] a h = absurd a
among_any p x (z ∷ xs) (inl e) h = or_true_left (p z) (list_any p xs) (sym (ap p e) ∙ h)
among_any p x (z ∷ xs) (inr a) h = or_true_right (p z) (list_any p xs) (among_any p x xs a h)

pub not_any : {X : Type 0} (p : X → Bool) (xs : List X) → ((x : X) → Among x xs → p x ≡ true → ⊥) → list_any p xs ≡ false
not_any p xs h = not_true (list_any p xs) (λ e. let r = any_among p xs e in h r.0 r.1 r.2)

found_by : {X : Type 0} (p : X → Bool) (z : X) (xs : List X) (b : Bool) → p z ≡ b → IfSome (find p xs) (λ x. Among x xs × (p x ≡ true)) → IfSome (cond b (Some z) (find p xs)) (λ x. Among x (z ∷ xs) × (p x ≡ true))
found_by p z xs true e h = (inl refl, e)
found_by p z xs false e h = found_more p z xs (find p xs) h
  where
    found_more : {X : Type 0} (p : X → Bool) (z : X) (xs : List X) (o : Option X) → IfSome o (λ x. Among x xs × (p x ≡ true)) → IfSome o (λ x. Among x (z ∷ xs) × (p x ≡ true))
    found_more p z xs (Some x) h = (inr h.0, h.1)
    found_more p z xs None h = tt

found_if : {X : Type 0} (p : X → Bool) (xs : List X) → IfSome (find p xs) (λ x. Among x xs × (p x ≡ true))
found_if p [] = tt
found_if p (z ∷ xs) = found_by p z xs (p z) refl (found_if p xs)

pub found_among : {X : Type 0} (p : X → Bool) (xs : List X) (x : X) → find p xs ≡ Some x → Among x xs × (p x ≡ true)
found_among {X} p xs x e = subst (λ (o : Option X). IfSome o (λ y. Among y xs × (p y ≡ true))) e (found_if p xs)

some_by : {X : Type 0} (z : X) (b : Bool) (o : Option X) → (b ≡ true) ⊎ (is_some o ≡ true) → is_some (cond b (Some z) o) ≡ true
some_by z true o h = refl
some_by z false o (inl e) = absurd (cc)
some_by z false o (inr h) = h

pub among_found : {X : Type 0} (p : X → Bool) (x : X) (xs : List X) → Among x xs → p x ≡ true → is_some (find p xs) ≡ true
among_found p x [] a h = absurd a
among_found p x (z ∷ xs) (inl e) h = some_by z (p z) (find p xs) (inl (sym (ap p e) ∙ h))
among_found p x (z ∷ xs) (inr a) h = some_by z (p z) (find p xs) (inr (among_found p x xs a h))

pub some_of : {X : Type 0} (o : Option X) → is_some o ≡ true → (x : X) × (o ≡ Some x)
some_of (Some x) h = (x, refl)
some_of None h = absurd (cc)

-- what holds of all items, and of all pairs

pub all_from_among : {X : Type 0} (P : X → Type 0) (xs : List X) → ((x : X) → Among x xs → P x) → AllByRecursion P xs
all_from_among P [] h = tt
all_from_among P (x ∷ xs) h = (h x (inl refl), all_from_among P xs (λ y a. h y (inr a)))

pub all_among : {X : Type 0} (P : X → Type 0) (xs : List X) (x : X) → Among x xs → AllByRecursion P xs → P x
all_among P [] x a h = absurd a
all_among {X} P (z ∷ xs) x (inl e) h = subst P (sym e) h.0
all_among P (z ∷ xs) x (inr a) h = all_among P xs x a h.1

pub pairs_then : {X : Type 0} (R S : X → X → Type 0) (xs : List X) → ((x y : X) → Among x xs → Among y xs → R x y → S x y) → EachPair R xs → EachPair S xs
pairs_then R S [] h p = tt
pairs_then R S (x ∷ xs) h p =
    (all_from_among (S x) xs (λ y a. h x y (inl refl) (inr a) (all_among (R x) xs y a p.0)), pairs_then R S xs (λ y z a b. h y z (inr a) (inr b)) p.1)

all_cond : {X : Type 0} (P : X → Type 0) (b : Bool) (x : X) (xs : List X) → P x → AllByRecursion P xs → AllByRecursion P (cond b (x ∷ xs) xs)
all_cond P true x xs h i = (h, i)
all_cond P false x xs h i = i

pub all_filter : {X : Type 0} (P : X → Type 0) (p : X → Bool) (xs : List X) → AllByRecursion P xs → AllByRecursion P (filter p xs)
all_filter P p [] h = tt
all_filter P p (x ∷ xs) h = all_cond P (p x) x (filter p xs) h.0 (all_filter P p xs h.1)

pairs_cond : {X : Type 0} (R : X → X → Type 0) (b : Bool) (x : X) (xs : List X) → AllByRecursion (R x) xs → EachPair R xs → EachPair R (cond b (x ∷ xs) xs)
pairs_cond R true x xs h i = (h, i)
pairs_cond R false x xs h i = i

pub pairs_filter : {X : Type 0} (R : X → X → Type 0) (p : X → Bool) (xs : List X) → EachPair R xs → EachPair R (filter p xs)
pairs_filter R p [] h = tt
pairs_filter R p (x ∷ xs) h = pairs_cond R (p x) x (filter p xs) (all_filter (R x) p xs h.0) (pairs_filter R p xs h.1)

pub all_push : {X : Type 0} (P : X → Type 0) (xs : List X) (y : X) → AllByRecursion P xs → P y → AllByRecursion P (xs ++ y ∷ [])
all_push P [] y h i = (i, tt)
all_push P (x ∷ xs) y h i = (h.0, all_push P xs y h.1 i)

pub pairs_push : {X : Type 0} (R : X → X → Type 0) (xs : List X) (y : X) → EachPair R xs → ((x : X) → Among x xs → R x y) → EachPair R (xs ++ y ∷ [])
pairs_push R [] y h i = (tt, tt)
pairs_push R (x ∷ xs) y h i = (all_push (R x) xs y h.0 (i x (inl refl)), pairs_push R xs y h.1 (λ z a. i z (inr a)))

pub all_mapped : {X Y : Type 0} (P : X → Type 0) (Q : Y → Type 0) (f : X → Y) → ((x : X) → P x → Q (f x)) → (xs : List X) → AllByRecursion P xs → AllByRecursion Q (map f xs)
all_mapped P Q f h [] a = tt
all_mapped P Q f h (x ∷ xs) a = (h x a.0, all_mapped P Q f h xs a.1)

pub all_unmapped : {X Y : Type 0} (Q : Y → Type 0) (f : X → Y) (xs : List X) → AllByRecursion Q (map f xs) → AllByRecursion (λ x. Q (f x)) xs
all_unmapped Q f [] a = tt
all_unmapped Q f (x ∷ xs) a = (a.0, all_unmapped Q f xs a.1)

pub pairs_mapped : {X Y : Type 0} (R : X → X → Type 0) (S : Y → Y → Type 0) (f : X → Y) → ((x y : X) → R x y → S (f x) (f y)) → (xs : List X) → EachPair R xs → EachPair S (map f xs)
pairs_mapped R S f h [] p = tt
pairs_mapped R S f h (x ∷ xs) p = (all_mapped (R x) (S (f x)) f (λ y r. h x y r) xs p.0, pairs_mapped R S f h xs p.1)

pub pairs_unmapped : {X Y : Type 0} (S : Y → Y → Type 0) (f : X → Y) (xs : List X) → EachPair S (map f xs) → EachPair (λ x y. S (f x) (f y)) xs
pairs_unmapped S f [] p = tt
pairs_unmapped S f (x ∷ xs) p = (all_unmapped (S (f x)) f xs p.0, pairs_unmapped S f xs p.1)
