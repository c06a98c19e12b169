-- The first place at which a test passes.
use Rattle.std.proofs.Common.{
  ◌≡◌,
  ℕ,
  ◌+◌,
  ◌<◌,
  suc,
  Bool,
  true,
  false,
  ◌||◌,
  Option,
  Some,
  None,
  List,
  [],
  ◌∷◌,
  length,
  nat_lt,
  is_some,
  option_map,
  cond,
  refl,
  ◌∙◌,
  ap,
  position,
  arith,
}
use Rattle.std.specs.List.{list_any, position_or_len}
use Rattle.std.proofs.lemmas.Bool.Decides.{nat_tests}

below : (n m : ℕ) → n < m → nat_lt n m ≡ true
below n m h = grind (arith, nat_tests)

at_front : (n : ℕ) → cond {A = Option ℕ} (nat_lt 0 (suc n)) (Some 0) None ≡ Some 0
at_front n = rw (below 0 (suc n) (omega arith)) refl

pub position_here : {X : Type 0} (p : X → Bool) (x : X) (xs : List X) → p x ≡ true → position p (x ∷ xs) ≡ Some 0
position_here p x xs h = rw h (at_front (length xs))

next_below : (l n : ℕ) → nat_lt (1 + l) (suc n) ≡ nat_lt l n
next_below l n = grind (arith, nat_tests)

next : (b : Bool) (l : ℕ) → cond {A = Option ℕ} b (Some (1 + l)) None ≡ option_map suc (cond b (Some l) None)
next true l = ap (λ k. Some k) (omega arith)
next false l = refl

pub position_past : {X : Type 0} (p : X → Bool) (x : X) (xs : List X) → p x ≡ false →
    position p (x ∷ xs) ≡ option_map suc (position p xs)
position_past p x xs h = rw (h, next_below (position_or_len p xs) (length xs))
    (next (nat_lt (position_or_len p xs) (length xs)) (position_or_len p xs))

some_next : (o : Option ℕ) → is_some (option_map suc o) ≡ is_some o
some_next (Some n) = refl
some_next None = refl

placed_by : {X : Type 0} (p : X → Bool) (x : X) (xs : List X) (b : Bool) → p x ≡ b →
    is_some (position p xs) ≡ list_any p xs → is_some (position p (x ∷ xs)) ≡ (b || list_any p xs)
placed_by p x xs true h rest = rw (position_here p x xs h) refl
placed_by p x xs false h rest = rw (position_past p x xs h) (some_next (position p xs) ∙ rest)

-- there is a place where one passes
pub placed : {X : Type 0} (p : X → Bool) (xs : List X) → is_some (position p xs) ≡ list_any p xs
placed p [] = refl
placed p (x ∷ xs) = placed_by p x xs (p x) refl (placed p xs)
