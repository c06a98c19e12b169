-- Lists whose elements pass a test or fail it, and relations between each element and every later one.
use Rattle.std.proofs.Common.{◌≡◌, ℕ, ◌+◌, ◌<◌, ◌≤◌, zero, suc, Bool, true, false, not, ◌||◌, List, [], ◌∷◌, ◌++◌, length, take, drop, get_or, map, refl, sym, ap, ◌∙◌, arith}
use Rattle.std.specs.List.{All, AllByRecursion, filter, list_any}
use Rattle.std.proofs.lemmas.List.Elements.{All-head, All-tail, All-cons, All-nil}
use Rattle.data_model.specs.Rows.{Pairwise}

pub filter_all : {X : Type 0} (p : X → Bool) (xs : List X) → All (λ x. p x ≡ true) xs → filter p xs ≡ xs
filter_all p [] h = refl
filter_all p (x ∷ xs) h = rw (All-head (λ x. p x ≡ true) x xs h) (ap (λ ys. x ∷ ys) (filter_all p xs (All-tail (λ x. p x ≡ true) x xs h)))

pub filter_none : {X : Type 0} (p : X → Bool) (xs : List X) → All (λ x. p x ≡ false) xs → filter p xs ≡ []
filter_none p [] h = refl
filter_none p (x ∷ xs) h = rw (All-head (λ x. p x ≡ false) x xs h) (filter_none p xs (All-tail (λ x. p x ≡ false) x xs h))

pub map_same : {X : Type 0} (f : X → X) (xs : List X) → All (λ x. f x ≡ x) xs → map f xs ≡ xs
map_same f [] h = refl
map_same f (x ∷ xs) h = let here = All-head (λ x. f x ≡ x) x xs h in let rest = map_same f xs (All-tail (λ x. f x ≡ x) x xs h) in cc

pub any_none : {X : Type 0} (p : X → Bool) (xs : List X) → All (λ x. p x ≡ false) xs → list_any p xs ≡ false
any_none p [] h = refl
any_none p (x ∷ xs) h = rw (All-head (λ x. p x ≡ false) x xs h) (any_none p xs (All-tail (λ x. p x ≡ false) x xs h))

pub or_false : (a b : Bool) → (a || b) ≡ false → (a ≡ false) × (b ≡ false)
or_false true b h = cc
or_false false b h = (refl, h)

pub none_from_any : {X : Type 0} (p : X → Bool) (xs : List X) → list_any p xs ≡ false → All (λ x. p x ≡ false) xs
none_from_any p [] h = All-nil (λ x. p x ≡ false)
none_from_any p (x ∷ xs) h =
    let both = or_false (p x) (list_any p xs) h in
    All-cons (λ x. p x ≡ false) x xs both.0 (none_from_any p xs both.1)

-- to and from `AllByRecursion`
pub all_in : {X : Type 0} (P : X → Type 0) (xs : List X) → AllByRecursion P xs → All P xs
all_in P [] h = All-nil P
all_in P (x ∷ xs) h = All-cons P x xs h.0 (all_in P xs h.1)

pub all_out : {X : Type 0} (P : X → Type 0) (xs : List X) → All P xs → AllByRecursion P xs
all_out P [] h = tt
all_out P (x ∷ xs) h = (All-head P x xs h, all_out P xs (All-tail P x xs h))

pub out_append : {X : Type 0} (P : X → Type 0) (xs ys : List X) → AllByRecursion P xs → AllByRecursion P ys → AllByRecursion P (xs ++ ys)
out_append P [] ys h k = k
out_append P (x ∷ xs) ys h k = (h.0, out_append P xs ys h.1 k)

pub out_parts : {X : Type 0} (P : X → Type 0) (xs ys : List X) → AllByRecursion P (xs ++ ys) → AllByRecursion P xs × AllByRecursion P ys
out_parts P [] ys h = (tt, h)
out_parts P (x ∷ xs) ys h = let rest = out_parts P xs ys h.1 in ((h.0, rest.0), rest.1)

-- with one more in the middle, and with one less
pub pairwise_with : {X : Type 0} (R : X → X → Type 0) (xs : List X) (y : X) (zs : List X) → Pairwise R (xs ++ zs) → AllByRecursion (λ x. R x y) xs → AllByRecursion (R y) zs → Pairwise R (xs ++ y ∷ zs)
pairwise_with R [] y zs h before after = (after, h)
pairwise_with R (x ∷ xs) y zs h before after =
    let parts = out_parts (R x) xs zs h.0 in
    (out_append (R x) xs (y ∷ zs) parts.0 (before.0, parts.1), pairwise_with R xs y zs h.1 before.1 after)

pub pairwise_without : {X : Type 0} (R : X → X → Type 0) (xs : List X) (y : X) (zs : List X) → Pairwise R (xs ++ y ∷ zs) → Pairwise R (xs ++ zs)
pairwise_without R [] y zs h = h.1
pairwise_without R (x ∷ xs) y zs h =
    let parts = out_parts (R x) xs (y ∷ zs) h.0 in
    (out_append (R x) xs zs parts.0 parts.1.1, pairwise_without R xs y zs h.1)

pub pairwise_before : {X : Type 0} (R : X → X → Type 0) (xs : List X) (y : X) (zs : List X) → Pairwise R (xs ++ y ∷ zs) → AllByRecursion (λ x. R x y) xs
pairwise_before R [] y zs h = tt
pairwise_before R (x ∷ xs) y zs h = ((out_parts (R x) xs (y ∷ zs) h.0).1.0, pairwise_before R xs y zs h.1)

pub pairwise_after : {X : Type 0} (R : X → X → Type 0) (xs : List X) (y : X) (zs : List X) → Pairwise R (xs ++ y ∷ zs) → AllByRecursion (R y) zs
pairwise_after R [] y zs h = h.0
pairwise_after R (x ∷ xs) y zs h = pairwise_after R xs y zs h.1

pub pairwise_at : {X : Type 0} (R : X → X → Type 0) (xs : List X) (i j : ℕ) (d : X) → Pairwise R xs → i < j → j < length xs → R (get_or xs i d) (get_or xs j d)
pairwise_at R [] i j d h less within = absurd (omega arith)
pairwise_at R (x ∷ xs) zero zero d h less within = absurd (omega arith)
pairwise_at R (x ∷ xs) zero (suc j) d h less within = all_in (R x) xs h.0 j d (omega arith)
pairwise_at R (x ∷ xs) (suc i) zero d h less within = absurd (omega arith)
pairwise_at R (x ∷ xs) (suc i) (suc j) d h less within = pairwise_at R xs i j d h.1 (omega arith) (omega arith)
