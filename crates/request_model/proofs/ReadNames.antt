-- Texts that are read from their front: names and integers end where no byte of one follows.
use Rattle.std.proofs.Common.{◌≡◌, ℕ, Bool, true, false, not, ◌||◌, ◌==◌, List, [], ◌∷◌, ◌++◌, refl, ap, ap₂, sym, ◌∙◌, inl, inr, ◌⊎◌}
use Rattle.std.proofs.lemmas.Bool.{false≢true, eqb-true, cases_Bool, or_cases, and_parts, not-true, not_from_false}
use Rattle.std.specs.Prelude.{IsTrue}
use Rattle.std.specs.List.{list_all}
use Rattle.request_model.specs.Strings.{Text}
use Rattle.request_model.specs.Lexemes.{is_in_name}

-- ---- lists

pub tails : {X : Type 0} (x y : X) (xs ys : List X) → ◌≡◌ {A = List X} (x ∷ xs) (y ∷ ys) → (x ≡ y) × (xs ≡ ys)
tails x y xs ys h = (cc, cc)

pub not_empty : {X : Type 0} (x : X) (xs : List X) → ◌≡◌ {A = List X} (x ∷ xs) [] → ⊥
not_empty x xs h = cc

-- ---- bytes

-- a test tells two numbers apart
pub apart : (f : ℕ → Bool) (b k : ℕ) → f b ≡ true → f k ≡ false → (b == k) ≡ false
apart f b k yes_ no_ = go (cases_Bool (b == k))
  where
    go : ((b == k) ≡ true) ⊎ ((b == k) ≡ false) → (b == k) ≡ false
    go (inl e) = absurd (false≢true (sym no_ ∙ ap f (sym (eqb-true b k e)) ∙ yes_))
    go (inr e) = e

-- a byte of a name or an integer
abbrev pub is_part : ℕ → Bool
is_part b = is_in_name b || b == 45

-- a byte that follows a value or a field
abbrev pub is_close : ℕ → Bool
is_close b = b == 32 || b == 41 || b == 44 || b == 93 || b == 125

pub at_byte : (f : ℕ → Bool) (b k : ℕ) → (b == k) ≡ true → f k ≡ false → f b ≡ false
at_byte f b k e no_ = ap f (eqb-true b k e) ∙ no_

pub close_fails : (f : ℕ → Bool) → f 32 ≡ false → f 41 ≡ false → f 44 ≡ false → f 93 ≡ false → f 125 ≡ false → (b : ℕ) → is_close b ≡ true → f b ≡ false
close_fails f h32 h41 h44 h93 h125 b h = last (or_cases _ (b == 125) h)
  where
    second : ((b == 32) ≡ true) ⊎ ((b == 41) ≡ true) → f b ≡ false
    second (inl e) = at_byte f b 32 e h32
    second (inr e) = at_byte f b 41 e h41

    third : ((b == 32 || b == 41) ≡ true) ⊎ ((b == 44) ≡ true) → f b ≡ false
    third (inl e) = second (or_cases _ (b == 41) e)
    third (inr e) = at_byte f b 44 e h44

    fourth : ((b == 32 || b == 41 || b == 44) ≡ true) ⊎ ((b == 93) ≡ true) → f b ≡ false
    fourth (inl e) = third (or_cases _ (b == 44) e)
    fourth (inr e) = at_byte f b 93 e h93

    last : ((b == 32 || b == 41 || b == 44 || b == 93) ≡ true) ⊎ ((b == 125) ≡ true) → f b ≡ false
    last (inl e) = fourth (or_cases _ (b == 93) e)
    last (inr e) = at_byte f b 125 e h125

-- ---- what follows

-- nothing, or what follows a value or a field
abbrev pub closes : Text → Bool
closes [] = true
closes (b ∷ r) = is_close b

-- nothing, or no byte of a name or an integer
abbrev pub stops : Text → Bool
stops [] = true
stops (b ∷ r) = not (is_part b)

pub closes_stops : (r : Text) → IsTrue (closes r) → IsTrue (stops r)
closes_stops [] h = refl
closes_stops (b ∷ r) h = not_from_false (is_part b) (close_fails is_part refl refl refl refl refl b h)

-- ---- names and integers

pub read_part : (x y r s : Text) → IsTrue (list_all is_part x) → IsTrue (list_all is_part y) → IsTrue (stops r) → IsTrue (stops s) → x ++ r ≡ y ++ s → (x ≡ y) × (r ≡ s)
read_part [] [] r s hx hy hr hs h = (refl, h)
read_part [] (b ∷ y) [] s hx hy hr hs h = absurd (not_empty b (y ++ s) (sym h))
read_part [] (b ∷ y) (c ∷ r) s hx hy hr hs h =
    let e = (tails c b r (y ++ s) h).0 in
    absurd (false≢true (sym (not-true (is_part c) hr) ∙ ap is_part e ∙ (and_parts (is_part b) (list_all is_part y) hy).0))
read_part (b ∷ x) [] r [] hx hy hr hs h = absurd (not_empty b (x ++ r) h)
read_part (b ∷ x) [] r (c ∷ s) hx hy hr hs h =
    let e = (tails b c (x ++ r) s h).0 in
    absurd (false≢true (sym (not-true (is_part c) hs) ∙ ap is_part (sym e) ∙ (and_parts (is_part b) (list_all is_part x) hx).0))
read_part (b ∷ x) (c ∷ y) r s hx hy hr hs h =
    let t = tails b c (x ++ r) (y ++ s) h in
    let rest = read_part x y r s (and_parts (is_part b) (list_all is_part x) hx).1 (and_parts (is_part c) (list_all is_part y) hy).1 hr hs t.1 in
    (ap₂ (λ d z. d ∷ z) t.0 rest.0, rest.1)
