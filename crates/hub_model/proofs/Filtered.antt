-- Lists of which only some items are kept, and what is seen of them.
use Rattle.std.proofs.Common.{◌≡◌, ◌∙◌, inl, inr, ap, refl, Bool, true, false, ◌||◌, cond, if◌then◌else◌, Some, None}
use Rattle.std.proofs.Common.{Option, List, [], ◌∷◌, map}
use Rattle.std.specs.Option.{option_map}
use Rattle.std.specs.List.{filter_map, cons_option, list_any, find, filter}
use Rattle.hub_model.proofs.Items.{Among, not_both, found_none}

-- by both values of a test
pub by_test : (P : Type 0) (b : Bool) → (b ≡ true → P) → (b ≡ false → P) → P
by_test P true h i = h refl
by_test P false h i = i refl

found_of : {X : Type 0} (p : X → Bool) (x : X) (xs : List X) (o : Option X) → find p xs ≡ o → Among x xs → p x ≡ true →
    (y : X) × (find p xs ≡ Some y)
found_of p x xs (Some y) e a h = (y, e)
found_of p x xs None e a h = absurd (not_both (p x) h (found_none p xs e x a))

pub among_found : {X : Type 0} (p : X → Bool) (x : X) (xs : List X) → Among x xs → p x ≡ true →
    (y : X) × (find p xs ≡ Some y)
among_found p x xs a h = found_of p x xs (find p xs) refl a h

-- ---- a test that passes only items that a filter keeps goes by those alone

any_by : {X : Type 0} (p q : X → Bool) (x : X) (xs : List X) (b c : Bool) → p x ≡ b → (b ≡ true → c ≡ true) →
    list_any p (filter q xs) ≡ list_any p xs →
    list_any p (cond c (x ∷ filter q xs) (filter q xs)) ≡ (b || list_any p xs)
any_by p q x xs b true e h rest = rw (e, rest) refl
any_by p q x xs true false e h rest = absurd (cc (h refl))
any_by p q x xs false false e h rest = rest

pub any_kept : {X : Type 0} (p q : X → Bool) (xs : List X) → ((x : X) → Among x xs → p x ≡ true → q x ≡ true) →
    list_any p (filter q xs) ≡ list_any p xs
any_kept p q [] h = refl
any_kept p q (x ∷ xs) h =
    any_by p q x xs (p x) (q x) refl (h x (inl refl)) (any_kept p q xs (λ y a. h y (inr a)))

filter_by : {X : Type 0} (p q : X → Bool) (x : X) (xs : List X) (b c : Bool) → p x ≡ b → (b ≡ true → c ≡ true) →
    filter p (filter q xs) ≡ filter p xs →
    filter p (cond c (x ∷ filter q xs) (filter q xs)) ≡ cond b (x ∷ filter p xs) (filter p xs)
filter_by p q x xs b true e h rest = rw (e, rest) refl
filter_by p q x xs true false e h rest = absurd (cc (h refl))
filter_by p q x xs false false e h rest = rest

pub filter_kept : {X : Type 0} (p q : X → Bool) (xs : List X) →
    ((x : X) → Among x xs → p x ≡ true → q x ≡ true) → filter p (filter q xs) ≡ filter p xs
filter_kept p q [] h = refl
filter_kept p q (x ∷ xs) h =
    filter_by p q x xs (p x) (q x) refl (h x (inl refl)) (filter_kept p q xs (λ y a. h y (inr a)))

find_by : {X : Type 0} (p q : X → Bool) (x : X) (xs : List X) (b c : Bool) → p x ≡ b → (b ≡ true → c ≡ true) →
    find p (filter q xs) ≡ find p xs →
    find p (cond c (x ∷ filter q xs) (filter q xs)) ≡ cond b (Some x) (find p xs)
find_by p q x xs b true e h rest = rw (e, rest) refl
find_by p q x xs true false e h rest = absurd (cc (h refl))
find_by p q x xs false false e h rest = rest

pub find_kept : {X : Type 0} (p q : X → Bool) (xs : List X) →
    ((x : X) → Among x xs → p x ≡ true → q x ≡ true) → find p (filter q xs) ≡ find p xs
find_kept p q [] h = refl
find_kept p q (x ∷ xs) h =
    find_by p q x xs (p x) (q x) refl (h x (inl refl)) (find_kept p q xs (λ y a. h y (inr a)))

filter_map_by : {X Y : Type 0} (f : X → Option Y) (q : X → Bool) (x : X) (xs : List X) (c : Bool) →
    (c ≡ false → f x ≡ None) → filter_map f (filter q xs) ≡ filter_map f xs →
    filter_map f (cond c (x ∷ filter q xs) (filter q xs)) ≡ cons_option (f x) (filter_map f xs)
filter_map_by f q x xs true h rest = ap (cons_option (f x)) rest
filter_map_by f q x xs false h rest = rw (h refl) rest

pub filter_map_kept : {X Y : Type 0} (f : X → Option Y) (q : X → Bool) (xs : List X) →
    ((x : X) → Among x xs → q x ≡ false → f x ≡ None) → filter_map f (filter q xs) ≡ filter_map f xs
filter_map_kept f q [] h = refl
filter_map_kept f q (x ∷ xs) h =
    filter_map_by f q x xs (q x) (h x (inl refl)) (filter_map_kept f q xs (λ y a. h y (inr a)))

-- ---- what is made of the items

pub filter_map_mapped : {X Y Z : Type 0} (f : Y → Option Z) (g : X → Y) (xs : List X) →
    filter_map f (map g xs) ≡ filter_map (λ x. f (g x)) xs
filter_map_mapped f g [] = refl
filter_map_mapped f g (x ∷ xs) = ap (cons_option (f (g x))) (filter_map_mapped f g xs)

pub filter_map_same : {X Y : Type 0} (f g : X → Option Y) (xs : List X) → ((x : X) → Among x xs → f x ≡ g x) →
    filter_map f xs ≡ filter_map g xs
filter_map_same f g [] h = refl
filter_map_same f g (x ∷ xs) h = rw (h x (inl refl), filter_map_same f g xs (λ y a. h y (inr a))) refl

pub map_filter_map : {X Y Z : Type 0} (f : Y → Z) (g : X → Option Y) (xs : List X) →
    map f (filter_map g xs) ≡ filter_map (λ x. option_map f (g x)) xs
map_filter_map f g [] = refl
map_filter_map f g (x ∷ xs) = mapped_by f (g x) (filter_map g xs)
    ∙ ap (cons_option (option_map f (g x))) (map_filter_map f g xs)
  where
    mapped_by : {Y Z : Type 0} (f : Y → Z) (o : Option Y) (ys : List Y) →
        map f (cons_option o ys) ≡ cons_option (option_map f o) (map f ys)
    mapped_by f (Some y) ys = refl
    mapped_by f None ys = refl

cons_by : {X Y : Type 0} (f : X → Y) (x : X) (xs : List X) (ys : List Y) (b : Bool) → ys ≡ map f xs →
    cons_option (if b then Some (f x) else None) ys ≡ map f (cond b (x ∷ xs) xs)
cons_by f x xs ys true rest = ap (λ zs. f x ∷ zs) rest
cons_by f x xs ys false rest = rest

-- something is made of just the items that a filter keeps
pub made_of_kept : {X Y : Type 0} (g : X → Option Y) (q : X → Bool) (f : X → Y) (xs : List X) →
    ((x : X) → Among x xs → g x ≡ (if q x then Some (f x) else None)) → filter_map g xs ≡ map f (filter q xs)
made_of_kept g q f [] h = refl
made_of_kept g q f (x ∷ xs) h =
    ap (λ o. cons_option o (filter_map g xs)) (h x (inl refl))
    ∙ cons_by f x (filter q xs) (filter_map g xs) (q x) (made_of_kept g q f xs (λ y a. h y (inr a)))
