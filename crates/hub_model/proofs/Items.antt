-- The items of a list, and tests of them.
use Rattle.std.proofs.Common.{◌≡◌, ◌⊎◌, inl, inr, ◌∙◌, sym, ap, refl, subst, ℕ, ◌<◌, Bool, true, false, ◌&&◌, ◌||◌, not, cond, Some, None, Option, List, [], ◌∷◌, ◌++◌, map, filter, arith}
use Rattle.std.specs.Option.{IfSome, is_some, option_map}
use Rattle.std.specs.List.{list_any, find, AllByRecursion}
use Rattle.std.specs.Bool.{⊤}

abbrev pub Among : {X : Type 0} → X → List X → Type 0
Among x [] = ⊥
Among x (y ∷ ys) = (x ≡ y) ⊎ Among x ys

-- each number is below each later one
abbrev pub Ascend : List ℕ → Type 0
Ascend [] = ⊤
Ascend (n ∷ ns) = AllByRecursion (λ m. n < m) ns × Ascend ns

pub among_append : {X : Type 0} (x : X) (xs ys : List X) → Among x (xs ++ ys) → Among x xs ⊎ Among x ys
among_append x [] ys a = inr a
among_append x (z ∷ xs) ys (inl e) = inl (inl e)
among_append x (z ∷ xs) ys (inr a) = elim (among_append x xs ys a) [ inl b ↦ inl (inr b) | inr b ↦ inr b ]

pub among_left : {X : Type 0} (x : X) (xs ys : List X) → Among x xs → Among x (xs ++ ys)
among_left x [] ys a = absurd a
among_left x (z ∷ xs) ys (inl e) = inl e
among_left x (z ∷ xs) ys (inr a) = inr (among_left x xs ys a)

pub among_map : {X Y : Type 0} (f : X → Y) (xs : List X) (y : Y) → Among y (map f xs) →
    (x : X) × Among x xs × (y ≡ f x)
among_map f [] y a = absurd a
among_map f (z ∷ xs) y (inl e) = (z, inl refl, e)
among_map f (z ∷ xs) y (inr a) = let r = among_map f xs y a in (r.0, inr r.1, r.2)

pub map_among : {X Y : Type 0} (f : X → Y) (xs : List X) (x : X) → Among x xs → Among (f x) (map f xs)
map_among f [] x a = absurd a
map_among f (z ∷ xs) x (inl e) = inl (ap f e)
map_among f (z ∷ xs) x (inr a) = inr (map_among f xs x a)

among_cond : {X : Type 0} (p : X → Bool) (x z : X) (xs ys : List X) (b : Bool) → p z ≡ b →
    (Among x ys → Among x xs × (p x ≡ true)) → Among x (cond b (z ∷ ys) ys) → Among x (z ∷ xs) × (p x ≡ true)
among_cond p x z xs ys true e h (inl i) = (inl i, ap p i ∙ e)
among_cond p x z xs ys true e h (inr a) = (inr (h a).0, (h a).1)
among_cond p x z xs ys false e h a = (inr (h a).0, (h a).1)

pub among_filter : {X : Type 0} (p : X → Bool) (x : X) (xs : List X) → Among x (filter p xs) →
    Among x xs × (p x ≡ true)
among_filter p x [] a = absurd a
among_filter p x (z ∷ xs) a = among_cond p x z xs (filter p xs) (p z) refl (λ b. among_filter p x xs b) a

kept_by : {X : Type 0} (x z : X) (ys : List X) (b : Bool) → (x ≡ z → b ≡ true) → (x ≡ z) ⊎ Among x ys →
    Among x (cond b (z ∷ ys) ys)
kept_by x z ys true h a = a
kept_by x z ys false h (inl e) = absurd (let w : false ≡ true = h e in cc)
kept_by x z ys false h (inr a) = a

pub filter_among : {X : Type 0} (p : X → Bool) (x : X) (xs : List X) → Among x xs → p x ≡ true →
    Among x (filter p xs)
filter_among p x [] a h = absurd a
filter_among p x (z ∷ xs) (inl e) h = kept_by x z (filter p xs) (p z) (λ i. sym (ap p i) ∙ h) (inl e)
filter_among p x (z ∷ xs) (inr a) h =
    kept_by x z (filter p xs) (p z) (λ i. sym (ap p i) ∙ h) (inr (filter_among p x xs a h))

-- ---- tests

pub or_true_left : (a b : Bool) → a ≡ true → (a || b) ≡ true
or_true_left true b h = refl
or_true_left false b h = absurd (cc)

pub or_true_right : (a b : Bool) → b ≡ true → (a || b) ≡ true
or_true_right true b h = refl
or_true_right false b h = h

pub and_true : (a b : Bool) → (a && b) ≡ true → (a ≡ true) × (b ≡ true)
and_true true b h = (refl, h)
and_true false b h = absurd (cc)

pub and_both : (a b : Bool) → a ≡ true → b ≡ true → (a && b) ≡ true
and_both true b h i = i
and_both false b h i = absurd (cc)

pub not_true : (a : Bool) → (a ≡ true → ⊥) → a ≡ false
not_true true h = absurd (h refl)
not_true false h = refl

pub not_both : (a : Bool) → a ≡ true → a ≡ false → ⊥
not_both a h i = cc

-- tests that follow from one another are equal
pub same_test : (a b : Bool) → (a ≡ true → b ≡ true) → (b ≡ true → a ≡ true) → a ≡ b
same_test true b h i = sym (h refl)
same_test false b h i = sym (not_true b (λ e. (let w : false ≡ true = i e in cc)))

any_by : {X : Type 0} (p : X → Bool) (z : X) (xs : List X) (b : Bool) → p z ≡ b →
    (list_any p xs ≡ true → (x : X) × Among x xs × (p x ≡ true)) → (b || list_any p xs) ≡ true →
    (x : X) × Among x (z ∷ xs) × (p x ≡ true)
any_by p z xs true e h i = (z, inl refl, e)
any_by p z xs false e h i = let r = h i in (r.0, inr r.1, r.2)

pub any_among : {X : Type 0} (p : X → Bool) (xs : List X) → list_any p xs ≡ true →
    (x : X) × Among x xs × (p x ≡ true)
any_among p [] h = absurd (cc)
any_among p (z ∷ xs) h = any_by p z xs (p z) refl (λ i. any_among p xs i) h

pub among_any : {X : Type 0} (p : X → Bool) (x : X) (xs : List X) → Among x xs → p x ≡ true → list_any p xs ≡ true
among_any p x [] a h = absurd a
among_any p x (z ∷ xs) (inl e) h = or_true_left (p z) (list_any p xs) (sym (ap p e) ∙ h)
among_any p x (z ∷ xs) (inr a) h = or_true_right (p z) (list_any p xs) (among_any p x xs a h)

pub not_any : {X : Type 0} (p : X → Bool) (xs : List X) → ((x : X) → Among x xs → p x ≡ true → ⊥) →
    list_any p xs ≡ false
not_any p xs h = not_true (list_any p xs) (λ e. let r = any_among p xs e in h r.0 r.1 r.2)

pub any_none : {X : Type 0} (p : X → Bool) (xs : List X) → list_any p xs ≡ false → (x : X) → Among x xs →
    p x ≡ false
any_none p xs e x a = not_true (p x) (λ h. not_both (list_any p xs) (among_any p x xs a h) e)

found_more : {X : Type 0} (p : X → Bool) (z : X) (xs : List X) (o : Option X) →
    IfSome o (λ x. Among x xs × (p x ≡ true)) → IfSome o (λ x. Among x (z ∷ xs) × (p x ≡ true))
found_more p z xs (Some x) h = (inr h.0, h.1)
found_more p z xs None h = tt

found_by : {X : Type 0} (p : X → Bool) (z : X) (xs : List X) (b : Bool) → p z ≡ b →
    IfSome (find p xs) (λ x. Among x xs × (p x ≡ true)) →
    IfSome (cond b (Some z) (find p xs)) (λ x. Among x (z ∷ xs) × (p x ≡ true))
found_by p z xs true e h = (inl refl, e)
found_by p z xs false e h = found_more p z xs (find p xs) h

found_if : {X : Type 0} (p : X → Bool) (xs : List X) → IfSome (find p xs) (λ x. Among x xs × (p x ≡ true))
found_if p [] = tt
found_if p (z ∷ xs) = found_by p z xs (p z) refl (found_if p xs)

pub found_among : {X : Type 0} (p : X → Bool) (xs : List X) (x : X) → find p xs ≡ Some x →
    Among x xs × (p x ≡ true)
found_among {X} p xs x e = subst (λ (o : Option X). IfSome o (λ y. Among y xs × (p y ≡ true))) e (found_if p xs)

none_by : {X : Type 0} (z : X) (o : Option X) (b : Bool) → cond b (Some z) o ≡ None → (b ≡ false) × (o ≡ None)
none_by z o true h = absurd (cc)
none_by z o false h = (refl, h)

pub found_none : {X : Type 0} (p : X → Bool) (xs : List X) → find p xs ≡ None → (x : X) → Among x xs → p x ≡ false
found_none p [] e x a = absurd a
found_none p (z ∷ xs) e x (inl i) = ap p i ∙ (none_by z (find p xs) (p z) e).0
found_none p (z ∷ xs) e x (inr a) = found_none p xs (none_by z (find p xs) (p z) e).1 x a

pub some_of : {X : Type 0} (o : Option X) → is_some o ≡ true → (x : X) × (o ≡ Some x)
some_of (Some x) h = (x, refl)
some_of None h = absurd (cc)

pub none_of : {X : Type 0} (o : Option X) → is_some o ≡ false → o ≡ None
none_of (Some x) h = absurd (cc)
none_of None h = refl

pub some_is : {X : Type 0} (o : Option X) (x : X) → o ≡ Some x → is_some o ≡ true
some_is o x e = ap is_some e

pub all_from_among : {X : Type 0} (P : X → Type 0) (xs : List X) → ((x : X) → Among x xs → P x) → AllByRecursion P xs
all_from_among P [] h = tt
all_from_among P (x ∷ xs) h = (h x (inl refl), all_from_among P xs (λ y a. h y (inr a)))

pub all_among : {X : Type 0} (P : X → Type 0) (xs : List X) (x : X) → Among x xs → AllByRecursion P xs → P x
all_among P [] x a h = absurd a
all_among P (z ∷ xs) x (inl e) h = subst P (sym e) h.0
all_among P (z ∷ xs) x (inr a) h = all_among P xs x a h.1

-- ---- lists that agree at each item

pub map_same : {X Y : Type 0} (f g : X → Y) (xs : List X) → ((x : X) → Among x xs → f x ≡ g x) → map f xs ≡ map g xs
map_same f g [] h = refl
map_same f g (x ∷ xs) h =
    let e = h x (inl refl) in
    let r = map_same f g xs (λ y a. h y (inr a)) in cc

pub filter_same : {X : Type 0} (p q : X → Bool) (xs : List X) → ((x : X) → Among x xs → p x ≡ q x) →
    filter p xs ≡ filter q xs
filter_same {X} p q [] h = refl
filter_same {X} p q (x ∷ xs) h =
    ap (λ (b : Bool). cond b (x ∷ filter p xs) (filter p xs)) (h x (inl refl))
    ∙ ap (λ (l : List X). cond (q x) (x ∷ l) l) (filter_same p q xs (λ y a. h y (inr a)))

pub any_same : {X : Type 0} (p q : X → Bool) (xs : List X) → ((x : X) → Among x xs → p x ≡ q x) →
    list_any p xs ≡ list_any q xs
any_same p q [] h = refl
any_same p q (x ∷ xs) h =
    ap (λ (b : Bool). b || list_any p xs) (h x (inl refl))
    ∙ ap (λ (b : Bool). q x || b) (any_same p q xs (λ y a. h y (inr a)))

pub map_mapped : {X Y Z : Type 0} (f : Y → Z) (g : X → Y) (xs : List X) → map f (map g xs) ≡ map (λ x. f (g x)) xs
map_mapped f g [] = refl
map_mapped f g (x ∷ xs) = let r = map_mapped f g xs in cc

pub map_own : {X : Type 0} (f : X → X) (xs : List X) → ((x : X) → Among x xs → f x ≡ x) → map f xs ≡ xs
map_own f [] h = refl
map_own f (x ∷ xs) h =
    let e = h x (inl refl) in
    let r = map_own f xs (λ y a. h y (inr a)) in cc

filter_one : {X Y : Type 0} (f : X → Y) (x : X) (xs : List X) (b : Bool) →
    cond b (f x ∷ map f xs) (map f xs) ≡ map f (cond b (x ∷ xs) xs)
filter_one f x xs true = refl
filter_one f x xs false = refl

pub filter_mapped : {X Y : Type 0} (p : Y → Bool) (f : X → Y) (xs : List X) →
    filter p (map f xs) ≡ map f (filter (λ x. p (f x)) xs)
filter_mapped {X} {Y} p f [] = refl
filter_mapped {X} {Y} p f (x ∷ xs) =
    ap (λ (l : List Y). cond (p (f x)) (f x ∷ l) l) (filter_mapped p f xs)
    ∙ filter_one f x (filter (λ y. p (f y)) xs) (p (f x))

pub any_mapped : {X Y : Type 0} (p : Y → Bool) (f : X → Y) (xs : List X) → list_any p (map f xs) ≡ list_any (λ x. p (f x)) xs
any_mapped p f [] = refl
any_mapped p f (x ∷ xs) = ap (λ (b : Bool). p (f x) || b) (any_mapped p f xs)

filter_two : {X : Type 0} (p : X → Bool) (x : X) (xs : List X) (a b : Bool) → p x ≡ a →
    filter p (cond b (x ∷ xs) xs) ≡ cond (b && a) (x ∷ filter p xs) (filter p xs)
filter_two {X} p x xs a true e = ap (λ (c : Bool). cond c (x ∷ filter p xs) (filter p xs)) e
filter_two p x xs a false e = refl

pub filter_both : {X : Type 0} (p q : X → Bool) (xs : List X) → filter p (filter q xs) ≡ filter (λ x. q x && p x) xs
filter_both {X} p q [] = refl
filter_both {X} p q (x ∷ xs) =
    filter_two p x (filter q xs) (p x) (q x) refl
    ∙ ap (λ (l : List X). cond (q x && p x) (x ∷ l) l) (filter_both p q xs)

none_kept : {X : Type 0} (x : X) (l : List X) (b : Bool) → b ≡ false → cond b (x ∷ l) l ≡ l
none_kept x l true e = absurd (cc)
none_kept x l false e = refl

pub filter_none : {X : Type 0} (p : X → Bool) (xs : List X) → ((x : X) → Among x xs → p x ≡ false) → filter p xs ≡ []
filter_none p [] h = refl
filter_none p (x ∷ xs) h =
    none_kept x (filter p xs) (p x) (h x (inl refl)) ∙ filter_none p xs (λ y a. h y (inr a))

pub filter_no : {X : Type 0} (p : X → Bool) (x : X) (xs : List X) → p x ≡ false → filter p (x ∷ xs) ≡ filter p xs
filter_no p x xs e = none_kept x (filter p xs) (p x) e

all_kept : {X : Type 0} (x : X) (l : List X) (b : Bool) → b ≡ true → cond b (x ∷ l) l ≡ x ∷ l
all_kept x l true e = refl
all_kept x l false e = absurd (cc)

pub filter_yes : {X : Type 0} (p : X → Bool) (x : X) (xs : List X) → p x ≡ true →
    filter p (x ∷ xs) ≡ x ∷ filter p xs
filter_yes p x xs e = all_kept x (filter p xs) (p x) e

pub filter_all : {X : Type 0} (p : X → Bool) (xs : List X) → ((x : X) → Among x xs → p x ≡ true) → filter p xs ≡ xs
filter_all {X} p [] h = refl
filter_all {X} p (x ∷ xs) h =
    all_kept x (filter p xs) (p x) (h x (inl refl))
    ∙ ap (λ (l : List X). x ∷ l) (filter_all p xs (λ y a. h y (inr a)))

-- items in ascending order of their numbers are told apart by them
pub ascend_apart : {X : Type 0} (f : X → ℕ) (xs : List X) → Ascend (map f xs) → (x y : X) → Among x xs → Among y xs →
    f x ≡ f y → x ≡ y
ascend_apart f [] w x y a b e = absurd a
ascend_apart f (z ∷ xs) w x y (inl i) (inl j) e = i ∙ sym j
ascend_apart f (z ∷ xs) w x y (inl i) (inr b) e =
    let low = all_among (λ m. f z < m) (map f xs) (f y) (map_among f xs y b) w.0 in
    let is = ap f i in absurd (omega (arith, low, is, e))
ascend_apart f (z ∷ xs) w x y (inr a) (inl j) e =
    let low = all_among (λ m. f z < m) (map f xs) (f x) (map_among f xs x a) w.0 in
    let is = ap f j in absurd (omega (arith, low, is, e))
ascend_apart f (z ∷ xs) w x y (inr a) (inr b) e = ascend_apart f xs w.1 x y a b e

find_one : {X Y : Type 0} (f : X → Y) (b : Bool) (x : X) (o : Option X) →
    cond b (Some (f x)) (option_map f o) ≡ option_map f (cond b (Some x) o)
find_one f true x o = refl
find_one f false x o = refl

pub find_mapped : {X Y : Type 0} (p : Y → Bool) (f : X → Y) (xs : List X) →
    find p (map f xs) ≡ option_map f (find (λ x. p (f x)) xs)
find_mapped {X} {Y} p f [] = refl
find_mapped {X} {Y} p f (x ∷ xs) =
    ap (λ (o : Option Y). cond (p (f x)) (Some (f x)) o) (find_mapped p f xs)
    ∙ find_one f (p (f x)) x (find (λ y. p (f y)) xs)

pub and_no : (a : Bool) → (a && false) ≡ false
and_no true = refl
and_no false = refl

pub and_yes : (a : Bool) → (a && true) ≡ a
and_yes true = refl
and_yes false = refl

pub not_not : (a : Bool) → not a ≡ true → a ≡ false
not_not true h = absurd (cc)
not_not false h = refl
