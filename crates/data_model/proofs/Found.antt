-- Elements that pass a test: the first of them, and places whose elements don't.
use Rattle.std.proofs.Common.{◌≡◌, ℕ, Bool, cond, true, false, ◌||◌, ◌==◌, List, [], ◌∷◌, ◌++◌, refl, subst, ◌∙◌, ap, Option, Some, None}
use Rattle.std.proofs.lemmas.Bool.{eqb-true}
use Rattle.std.proofs.lemmas.List.Folds.{list_any-append}
use Rattle.std.specs.List.{cons_option, filter_map, find, list_any, slice_get}
use Rattle.data_model.proofs.Lists.{or_false}

pub any_of_both : {A : Type 0} (p : A → Bool) (xs ys : List A) → list_any p (xs ++ ys) ≡ (list_any p xs || list_any p ys)
any_of_both p xs ys = list_any-append p xs ys

-- the first element that passes
found_by : {A : Type 0} (p : A → Bool) (rest : Option A) (x y : A) (b : Bool) → p y ≡ b → (rest ≡ Some x → p x ≡ true) → cond b (Some y) rest ≡ Some x → p x ≡ true
found_by p rest x y true is later e = cc
found_by p rest x y false is later e = later e

pub found_passes : {A : Type 0} (p : A → Bool) (xs : List A) (x : A) → find p xs ≡ Some x → p x ≡ true
found_passes p [] x e = cc
found_passes p (y ∷ ys) x e = found_by p (find p ys) x y (p y) refl (found_passes p ys x) e

-- what no element has, the first that passes hasn't
among_by : {A : Type 0} (q : A → Bool) (rest : Option A) (x y : A) (b : Bool) → q y ≡ false → (rest ≡ Some x → q x ≡ false) → cond b (Some y) rest ≡ Some x → q x ≡ false
among_by q rest x y true here later e = cc
among_by q rest x y false here later e = later e

pub found_among : {A : Type 0} (p q : A → Bool) (xs : List A) (x : A) → find p xs ≡ Some x → list_any q xs ≡ false → q x ≡ false
found_among p q [] x e none = cc
found_among p q (y ∷ ys) x e none =
    let parts = or_false (q y) (list_any q ys) none in
    among_by q (find p ys) x y (p y) parts.0 (λ f. found_among p q ys x f parts.1) e

-- where none is first, none passes
none_by : {A : Type 0} (rest : Option A) (y : A) (b any : Bool) → (rest ≡ None → any ≡ false) → cond b (Some y) rest ≡ None → (b || any) ≡ false
none_by rest y true any later e = cc
none_by rest y false any later e = later e

pub found_none : {A : Type 0} (p : A → Bool) (xs : List A) → find p xs ≡ None → list_any p xs ≡ false
found_none p [] e = refl
found_none p (y ∷ ys) e = none_by (find p ys) y (p y) (list_any p ys) (found_none p ys) e

place_step : {A : Type 0} (p : A → Bool) (b : Bool) (o : Option A) (rest : List A) (x : A) → (b ≡ true → o ≡ Some x) → p x ≡ true → list_any p (cons_option o rest) ≡ false → (b ≡ false) × (list_any p rest ≡ false)
place_step {A} p true o rest x same passes none =
    let none_here : (p x || list_any p rest) ≡ false = subst (λ (o : Option A). list_any p (cons_option o rest) ≡ false) (same refl) none in
    let fails = (or_false (p x) (list_any p rest) none_here).0 in
    cc
place_step p false None rest x same passes none = (refl, none)
place_step p false (Some y) rest x same passes none = (refl, (or_false (p y) (list_any p rest) none).1)

-- a place whose element passes is none of those of elements that don't
pub place_apart : {A : Type 0} (xs : List A) (places : List ℕ) (p : A → Bool) (place : ℕ) (x : A) → slice_get xs place ≡ Some x → p x ≡ true → list_any p (filter_map (slice_get xs) places) ≡ false → list_any (λ k. k == place) places ≡ false
place_apart xs [] p place x at passes none = refl
place_apart xs (k ∷ places) p place x at passes none =
    let parts = place_step p (k == place) (slice_get xs k) (filter_map (slice_get xs) places) x (λ e. ap (slice_get xs) (eqb-true k place e) ∙ at) passes none in
    let rest = place_apart xs places p place x at passes parts.1 in
    rw (parts.0) rest
