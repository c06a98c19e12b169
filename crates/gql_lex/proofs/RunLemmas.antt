-- One turn of the lexer.
use Rattle.std.proofs.Common.{◌≡◌, ℕ, zero, suc, ◌+◌, ◌-◌, ◌<◌, ◌≤◌, List, [], ◌∷◌, ◌++◌, length, drop, Option, Some, None, refl, ap, sym, ◌∙◌, arith, append_assoc, append-nil, length-drop}
use Rattle.std.proofs.lemmas.List.{drop-drop}
use Rattle.request_model.specs.declared.token.Token.{Token}
use Rattle.request_model.specs.declared.token.TokenKind.{TokenKind}
use Rattle.request_model.specs.Strings.{Text}
use Rattle.request_model.specs.Lexemes.{Front, Ignored, Found, Bad, Run, before, with_front, front, lexemes_from}

skip : (left at : ℕ) (z : Text) → left ≤ length z → lexemes_from left at z ≡ lexemes_from 0 (at + left) (drop left z)
skip zero at z h = ap (λ k. lexemes_from 0 k z) (omega arith)
skip (suc left) at [] h = absurd (omega arith)
skip (suc left) at (b ∷ z) h = skip left (at + 1) z (omega arith) ∙ ap (λ k. lexemes_from 0 k (drop left z)) (omega arith)

turn : (z : Text) (at : ℕ) (f : Front) → 0 < length z → front z ≡ f → lexemes_from 0 at z ≡ with_front f at (λ left. lexemes_from left (at + 1) (drop 1 z))
turn [] at f h e = absurd (omega arith)
turn (b ∷ z) at f h e = ap (λ u. with_front u at (λ left. lexemes_from left (at + 1) z)) e

-- the bytes that are left of a front of n bytes are passed over
pub passes : (z : Text) (at n : ℕ) → 1 ≤ n → n ≤ length z → lexemes_from (n - 1) (at + 1) (drop 1 z) ≡ lexemes_from 0 (at + n) (drop n z)
passes [] at n a b = absurd (omega arith)
passes (c ∷ z) at zero a b = absurd (omega arith)
passes (c ∷ z) at (suc n) a b = let e : suc n - 1 ≡ n = omega arith in rw e (skip n (at + 1) z (omega arith) ∙ ap (λ k. lexemes_from 0 k (drop n z)) (omega arith))

-- the text behind a front
behind : (z : Text) (at n : ℕ) → lexemes_from 0 (at + n) (drop n (drop at z)) ≡ lexemes_from 0 (at + n) (drop (at + n) z)
behind z at n = ap (lexemes_from 0 (at + n)) (drop-drop n at z ∙ ap (λ k. drop k z) (omega arith))

module _ (z : Text) (at : ℕ) (h : at < length z) where
  pub ignored_turn : (n : ℕ) → front (drop at z) ≡ Ignored n → 1 ≤ n → n ≤ length (drop at z) → lexemes_from 0 at (drop at z) ≡ lexemes_from 0 (at + n) (drop (at + n) z)
  ignored_turn n e a b = turn (drop at z) at (Ignored n) (omega (arith, length-drop at z)) e ∙ passes (drop at z) at n a b ∙ behind z at n

  pub found_turn : (n : ℕ) (k : TokenKind) → front (drop at z) ≡ Found k n → 1 ≤ n → n ≤ length (drop at z) →
      lexemes_from 0 at (drop at z) ≡ before (record { kind = k; start = at; end = at + n } ∷ []) (lexemes_from 0 (at + n) (drop (at + n) z))
  found_turn n k e a b = turn (drop at z) at (Found k n) (omega (arith, length-drop at z)) e ∙ ap (before (record { kind = k; start = at; end = at + n } ∷ [])) (passes (drop at z) at n a b ∙ behind z at n)

  pub bad_turn : front (drop at z) ≡ Bad → lexemes_from 0 at (drop at z) ≡ ([], Some at)
  bad_turn e = turn (drop at z) at Bad (omega (arith, length-drop at z)) e

pub end_turn : (z : Text) (at : ℕ) → length z ≤ at → lexemes_from 0 at (drop at z) ≡ ([], None)
end_turn z at h = go (drop at z) (omega (arith, length-drop at z))
  where
    go : (u : Text) → length u ≡ 0 → lexemes_from 0 at u ≡ ([], None)
    go [] e = refl
    go (b ∷ u) e = absurd (omega arith)

pub before-before : (xs ys : List Token) (r : Run) → before xs (before ys r) ≡ before (xs ++ ys) r
before-before xs ys r = ap (λ u. (u, r.1)) (sym (append_assoc xs ys r.0))

pub before-end : (xs : List Token) (bad : Option ℕ) → before xs ([], bad) ≡ (xs, bad)
before-end xs bad = ap (λ u. (u, bad)) (append-nil xs)
