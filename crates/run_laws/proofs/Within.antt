-- A list from which items are left out that a test wouldn't pass anyway.
use Rattle.std.proofs.Common.{◌≡◌, inl, inr, ◌∙◌, sym, ap, refl, Bool, true, false, ◌||◌, cond, Some, None, Option, List, [], ◌∷◌, map, filter}
use Rattle.std.specs.Option.{is_some}
use Rattle.std.specs.List.{list_any, find, filter_map, cons_option}
use Rattle.std.proofs.lemmas.Bool.{true≢false}
use Rattle.run_laws.proofs.Among.{Among, not_true}

-- each item that p passes, q passes
abbrev pub Covers : {X : Type 0} → (X → Bool) → (X → Bool) → List X → Type 0
Covers {X} q p xs = (x : X) → Among x xs → p x ≡ true → q x ≡ true

-- who isn't passed by q isn't passed by p
unpassed : {X : Type 0} (q p : X → Bool) (x : X) (xs : List X) → Covers q p (x ∷ xs) → q x ≡ false → p x ≡ false
unpassed q p x xs h e = not_true (p x) (λ passes. true≢false (sym (h x (inl refl) passes) ∙ e))

further : {X : Type 0} (q p : X → Bool) (x : X) (xs : List X) → Covers q p (x ∷ xs) → Covers q p xs
further q p x xs h y a = h y (inr a)

pub filter_within : {X : Type 0} (q p : X → Bool) (xs : List X) → Covers q p xs → filter p (filter q xs) ≡ filter p xs
filter_within q p [] h = refl
filter_within q p (x ∷ xs) h = filter_by q p x xs (q x) (unpassed q p x xs h) (filter_within q p xs (further q p x xs h))
  where
    filter_by : {X : Type 0} (q p : X → Bool) (x : X) (xs : List X) (b : Bool) → (b ≡ false → p x ≡ false) → filter p (filter q xs) ≡ filter p xs → filter p (cond b (x ∷ filter q xs) (filter q xs)) ≡ filter p (x ∷ xs)
    filter_by {X} q p x xs true e h = ap (λ (ys : List X). cond (p x) (x ∷ ys) ys) h
    filter_by {X} q p x xs false e h = h ∙ ap (λ (b : Bool). cond b (x ∷ filter p xs) (filter p xs)) (sym (e refl))

pub any_within : {X : Type 0} (q p : X → Bool) (xs : List X) → Covers q p xs → list_any p (filter q xs) ≡ list_any p xs
any_within q p [] h = refl
any_within q p (x ∷ xs) h = any_by q p x xs (q x) (unpassed q p x xs h) (any_within q p xs (further q p x xs h))
  where
    any_by : {X : Type 0} (q p : X → Bool) (x : X) (xs : List X) (b : Bool) → (b ≡ false → p x ≡ false) → list_any p (filter q xs) ≡ list_any p xs → list_any p (cond b (x ∷ filter q xs) (filter q xs)) ≡ list_any p (x ∷ xs)
    any_by q p x xs true e h = ap (λ (b : Bool). p x || b) h
    any_by q p x xs false e h = h ∙ ap (λ (b : Bool). b || list_any p xs) (sym (e refl))

pub find_within : {X : Type 0} (q p : X → Bool) (xs : List X) → Covers q p xs → find p (filter q xs) ≡ find p xs
find_within q p [] h = refl
find_within q p (x ∷ xs) h = find_by q p x xs (q x) (unpassed q p x xs h) (find_within q p xs (further q p x xs h))
  where
    find_by : {X : Type 0} (q p : X → Bool) (x : X) (xs : List X) (b : Bool) → (b ≡ false → p x ≡ false) → find p (filter q xs) ≡ find p xs → find p (cond b (x ∷ filter q xs) (filter q xs)) ≡ find p (x ∷ xs)
    find_by {X} q p x xs true e h = ap (λ (o : Option X). cond (p x) (Some x) o) h
    find_by {X} q p x xs false e h = h ∙ ap (λ (b : Bool). cond b (Some x) (find p xs)) (sym (e refl))

none_of : {Y : Type 0} (o : Option Y) → is_some o ≡ false → o ≡ None
none_of (Some y) e = absurd (cc)
none_of None e = refl

pub filter_map_within : {X Y : Type 0} (q : X → Bool) (f : X → Option Y) (xs : List X) → Covers q (λ x. is_some (f x)) xs → filter_map f (filter q xs) ≡ filter_map f xs
filter_map_within q f [] h = refl
filter_map_within q f (x ∷ xs) h =
    map_by q f x xs (q x) (λ e. none_of (f x) (unpassed q (λ y. is_some (f y)) x xs h e)) (filter_map_within q f xs (further q (λ y. is_some (f y)) x xs h))
  where
    map_by : {X Y : Type 0} (q : X → Bool) (f : X → Option Y) (x : X) (xs : List X) (b : Bool) → (b ≡ false → f x ≡ None) → filter_map f (filter q xs) ≡ filter_map f xs → filter_map f (cond b (x ∷ filter q xs) (filter q xs)) ≡ filter_map f (x ∷ xs)
    map_by {X} {Y} q f x xs true e h = ap (λ (ys : List Y). cons_option (f x) ys) h
    map_by {X} {Y} q f x xs false e h = h ∙ ap (λ (o : Option Y). cons_option o (filter_map f xs)) (sym (e refl))

-- a change that a test doesn't see
pub filter_mapped : {X : Type 0} (q : X → Bool) (f : X → X) → ((x : X) → q (f x) ≡ q x) → (xs : List X) → filter q (map f xs) ≡ map f (filter q xs)
filter_mapped q f h [] = refl
filter_mapped {X} q f h (x ∷ xs) =
    ap (λ (b : Bool). cond b (f x ∷ filter q (map f xs)) (filter q (map f xs))) (h x)
    ∙ ap (λ (ys : List X). cond (q x) (f x ∷ ys) ys) (filter_mapped q f h xs)
    ∙ mapped_by f x (filter q xs) (q x)
  where
    mapped_by : {X : Type 0} (f : X → X) (x : X) (ys : List X) (b : Bool) → cond b (f x ∷ map f ys) (map f ys) ≡ map f (cond b (x ∷ ys) ys)
    mapped_by f x ys true = refl
    mapped_by f x ys false = refl
