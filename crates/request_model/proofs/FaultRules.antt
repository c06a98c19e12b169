-- A text has one first fault at most, and none where it is a document.
use Rattle.std.proofs.Common.{◌≡◌, ◌⊎◌, inl, inr, ℕ, List, [], ◌∷◌, ◌++◌, Some, None, refl, ap, sym, ◌∙◌, subst, arith, append_assoc, append-nil}
use Rattle.request_model.specs.declared.token.Token.{Token}
use Rattle.request_model.specs.declared.document.Document.{Document}
use Rattle.request_model.specs.Strings.{Text}
use Rattle.request_model.specs.Lexemes.{lexemes}
use Rattle.request_model.specs.Grammar.{Lexeme, IsDocument}
use Rattle.request_model.specs.Place.{lexeme, lexemes_of, Begins, IsShallow, Reads, FaultAt, too_long, at_lexeme, at_bad, at_end, level_after}

shallow_front : (level : ℕ) (a b : List Lexeme) → IsShallow level (a ++ b) → IsShallow level a
shallow_front level [] b h = tt
shallow_front level (t ∷ a) b h = (h.0, shallow_front (level_after level t) a b h.1)

-- what begins a document does so from its own front on
front_begins : (a b : List Lexeme) → Begins (a ++ b) → Begins a
front_begins a b h = (shallow_front 0 a b h.0, (b ++ h.1.0, h.1.1, subst (λ u. IsDocument u h.1.1 []) (append_assoc a b h.1.0) h.1.2))

lexemes_of-append : (text : Text) (xs ys : List Token) → lexemes_of text (xs ++ ys) ≡ lexemes_of text xs ++ lexemes_of text ys
lexemes_of-append text [] ys = refl
lexemes_of-append text (x ∷ xs) ys = ap (λ u. lexeme text x ∷ u) (lexemes_of-append text xs ys)

-- the tokens up to one of a list of tokens that begin a document
module _ (text : Text) where
  up_to : (front back : List Token) (t : Token) → Begins (lexemes_of text (front ++ t ∷ back)) → Begins (lexemes_of text (front ++ t ∷ []))
  up_to front back t h =
      front_begins (lexemes_of text (front ++ t ∷ [])) (lexemes_of text back)
      (subst Begins (ap (lexemes_of text) (sym (append_assoc front (t ∷ []) back)) ∙ lexemes_of-append text (front ++ t ∷ []) back) h)

-- of two places in one list one comes first, or they are one
compared : (b1 b2 a1 a2 : List Token) (t1 t2 : Token) → b1 ++ t1 ∷ a1 ≡ b2 ++ t2 ∷ a2 →
    (t1 ≡ t2) ⊎ (((more : List Token) × (b2 ≡ b1 ++ t1 ∷ more)) ⊎ ((more : List Token) × (b1 ≡ b2 ++ t2 ∷ more)))
compared [] [] a1 a2 t1 t2 e = inl (let q : t1 ∷ a1 ≡ t2 ∷ a2 = e in cc)
compared [] (y ∷ b2) a1 a2 t1 t2 e = let q : t1 ∷ a1 ≡ y ∷ (b2 ++ t2 ∷ a2) = e in let same : y ≡ t1 = cc in inr (inl (b2, ap (λ u. u ∷ b2) same))
compared (x ∷ b1) [] a1 a2 t1 t2 e = let q : x ∷ (b1 ++ t1 ∷ a1) ≡ t2 ∷ a2 = e in let same : x ≡ t2 = cc in inr (inr (b1, ap (λ u. u ∷ b1) same))
compared (x ∷ b1) (y ∷ b2) a1 a2 t1 t2 e =
    let q : x ∷ (b1 ++ t1 ∷ a1) ≡ y ∷ (b2 ++ t2 ∷ a2) = e in
    let same : x ≡ y = cc in
    let rest : b1 ++ t1 ∷ a1 ≡ b2 ++ t2 ∷ a2 = cc in
    elim (compared b1 b2 a1 a2 t1 t2 rest) [
      | inl s ↦ inl s
      | inr (inl m) ↦ inr (inl (m.0, ap (λ u. u ∷ b2) (sym same) ∙ ap (λ u. x ∷ u) m.1))
      | inr (inr m) ↦ inr (inr (m.0, ap (λ u. u ∷ b1) same ∙ ap (λ u. y ∷ u) m.1))
    ]

module _ (text : Text) where
  -- a fault at a lexeme comes before one further on, or at the end
  never_whole : (b a : List Token) (t : Token) → (lexemes text).0 ≡ b ++ t ∷ a → (Begins (lexemes_of text (b ++ t ∷ [])) → ⊥) → Begins (lexemes_of text (lexemes text).0) → ⊥
  never_whole b a t cut wrong well = wrong (up_to text b a t (subst (λ u. Begins (lexemes_of text u)) cut well))

  lexeme_first : (b1 b2 a1 a2 : List Token) (t1 t2 : Token) → (lexemes text).0 ≡ b1 ++ t1 ∷ a1 → (lexemes text).0 ≡ b2 ++ t2 ∷ a2 →
      Begins (lexemes_of text b1) → (Begins (lexemes_of text (b1 ++ t1 ∷ [])) → ⊥) → Begins (lexemes_of text b2) → (Begins (lexemes_of text (b2 ++ t2 ∷ [])) → ⊥) → t1.start ≡ t2.start
  lexeme_first b1 b2 a1 a2 t1 t2 c1 c2 w1 x1 w2 x2 = elim (compared b1 b2 a1 a2 t1 t2 (sym c1 ∙ c2)) [
    | inl s ↦ ap (λ t. t.start) s
    | inr (inl m) ↦ absurd (x1 (up_to text b1 m.0 t1 (subst (λ u. Begins (lexemes_of text u)) m.1 w2)))
    | inr (inr m) ↦ absurd (x2 (up_to text b2 m.0 t2 (subst (λ u. Begins (lexemes_of text u)) m.1 w1)))
  ]

  some_none : (at : ℕ) → (lexemes text).1 ≡ Some at → (lexemes text).1 ≡ None → ⊥
  some_none at e f = let bad : Some at ≡ None = sym e ∙ f in cc

pub one_fault : (text : Text) (a b : ℕ) → FaultAt text a → FaultAt text b → a ≡ b
one_fault text a b (too_long h) (too_long k) = refl
one_fault text a b (too_long h) (at_lexeme k _ _ _ _ _ _) = absurd (omega arith)
one_fault text a b (too_long h) (at_bad k _ _ _) = absurd (omega arith)
one_fault text a b (too_long h) (at_end k _ _ _) = absurd (omega arith)
one_fault text a b (at_lexeme h _ _ _ _ _ _) (too_long k) = absurd (omega arith)
one_fault text a b (at_lexeme h b1 t1 a1 c1 w1 x1) (at_lexeme k b2 t2 a2 c2 w2 x2) = lexeme_first text b1 b2 a1 a2 t1 t2 c1 c2 w1 x1 w2 x2
one_fault text a b (at_lexeme h b1 t1 a1 c1 w1 x1) (at_bad k _ _ w) = absurd (never_whole text b1 a1 t1 c1 x1 w)
one_fault text a b (at_lexeme h b1 t1 a1 c1 w1 x1) (at_end k _ w _) = absurd (never_whole text b1 a1 t1 c1 x1 w)
one_fault text a b (at_bad h _ _ _) (too_long k) = absurd (omega arith)
one_fault text a b (at_bad h _ _ w) (at_lexeme k b2 t2 a2 c2 w2 x2) = absurd (never_whole text b2 a2 t2 c2 x2 w)
one_fault text a b (at_bad h p e _) (at_bad k q f _) = let same : Some p ≡ Some q = sym e ∙ f in cc
one_fault text a b (at_bad h p e _) (at_end k f _ _) = absurd (some_none text p e f)
one_fault text a b (at_end h _ _ _) (too_long k) = absurd (omega arith)
one_fault text a b (at_end h _ w _) (at_lexeme k b2 t2 a2 c2 w2 x2) = absurd (never_whole text b2 a2 t2 c2 x2 w)
one_fault text a b (at_end h e _ _) (at_bad k q f _) = absurd (some_none text q f e)
one_fault text a b (at_end h _ _ _) (at_end k _ _ _) = refl

read_begins : (text : Text) (d : Document) → Reads text d → Begins (lexemes_of text (lexemes text).0)
read_begins text d r = (r.derives.1, ([], d, subst (λ u. IsDocument u d []) (sym (append-nil (lexemes_of text (lexemes text).0))) r.derives.0))

pub no_fault : (text : Text) (d : Document) (a : ℕ) → Reads text d → FaultAt text a → ⊥
no_fault text d a r (too_long h) = let k = r.fits in omega arith
no_fault text d a r (at_lexeme _ b t back c _ x) = never_whole text b back t c x (read_begins text d r)
no_fault text d a r (at_bad _ at e _) = some_none text at e r.good
no_fault text d a r (at_end _ _ _ none) = none d r.derives
