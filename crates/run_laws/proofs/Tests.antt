-- Tests on the items of a list.
use Rattle.std.proofs.Common.{◌≡◌, ◌∙◌, sym, ap, refl, Bool, true, false, ◌&&◌, ◌||◌, cond, Some, Option, List, [], ◌∷◌, ◌++◌, map}
use Rattle.std.specs.List.{list_any, find, AllByRecursion}
use Rattle.std.specs.Option.{IfSome}

pub or_false : (a b : Bool) → (a || b) ≡ false → (a ≡ false) × (b ≡ false)
or_false false b h = (refl, h)
or_false true b h = absurd (cc)

pub or_both : (a b : Bool) → a ≡ false → b ≡ false → (a || b) ≡ false
or_both a b h i = ap (λ (x : Bool). x || b) h ∙ i

pub and_right : (a b : Bool) → b ≡ false → (a && b) ≡ false
and_right true b h = h
and_right false b h = refl

-- a test that tells less stays false
pub and_weaker : (a b c : Bool) → (a ≡ true → b ≡ true) → (b && c) ≡ false → (a && c) ≡ false
and_weaker false b c h e = refl
and_weaker true b c h e = ap (λ (x : Bool). x && c) (sym (h refl)) ∙ e

pub map_map : {X : Type 0} (f g : X → X) (xs : List X) → map g (map f xs) ≡ map (λ x. g (f x)) xs
map_map f g [] = refl
map_map {X} f g (x ∷ xs) = ap (λ (ys : List X). g (f x) ∷ ys) (map_map f g xs)

pub map_same : {X : Type 0} (xs : List X) → map (λ x. x) xs ≡ xs
map_same [] = refl
map_same {X} (x ∷ xs) = ap (λ (ys : List X). x ∷ ys) (map_same xs)

pub none_mapped : {X : Type 0} (q : X → Bool) (f : X → X) → ((x : X) → q x ≡ false → q (f x) ≡ false) → (xs : List X) → list_any q xs ≡ false → list_any q (map f xs) ≡ false
none_mapped q f h [] e = refl
none_mapped q f h (x ∷ xs) e = let both = or_false (q x) (list_any q xs) e in or_both _ _ (h x both.0) (none_mapped q f h xs both.1)

IfSome_cond : {X : Type 0} (P : X → Type 0) (b : Bool) (x : X) (o : Option X) → P x → IfSome o P → IfSome (cond b (Some x) o) P
IfSome_cond P true x o p q = p
IfSome_cond P false x o p q = q

-- what no item passes, the one that is found doesn't pass
pub none_found : {X : Type 0} (p q : X → Bool) (xs : List X) → list_any q xs ≡ false → IfSome (find p xs) (λ x. q x ≡ false)
none_found p q [] e = tt
none_found {X} p q (x ∷ xs) e =
    let both = or_false (q x) (list_any q xs) e in IfSome_cond (λ (y : X). q y ≡ false) (p x) x (find p xs) both.0 (none_found p q xs both.1)

-- what is found passes
found_cond : {X : Type 0} (p : X → Bool) (b : Bool) (x : X) (o : Option X) → p x ≡ b → IfSome o (λ y. p y ≡ true) → IfSome (cond b (Some x) o) (λ y. p y ≡ true)
found_cond p true x o e h = e
found_cond p false x o e h = h

pub found_passes : {X : Type 0} (p : X → Bool) (xs : List X) → IfSome (find p xs) (λ x. p x ≡ true)
found_passes p [] = tt
found_passes p (x ∷ xs) = found_cond p (p x) x (find p xs) refl (found_passes p xs)

pub all_append : {X : Type 0} (P : X → Type 0) (xs ys : List X) → AllByRecursion P xs → AllByRecursion P ys → AllByRecursion P (xs ++ ys)
all_append P [] ys h i = i
all_append P (x ∷ xs) ys h i = (h.0, all_append P xs ys h.1 i)

pub all_then : {X : Type 0} (P Q : X → Type 0) → ((x : X) → P x → Q x) → (xs : List X) → AllByRecursion P xs → AllByRecursion Q xs
all_then P Q h [] a = tt
all_then P Q h (x ∷ xs) a = (h x a.0, all_then P Q h xs a.1)
