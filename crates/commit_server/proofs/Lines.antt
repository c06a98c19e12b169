-- Lines of a text, piece by piece.
use Rattle.std.proofs.Common.{◌≡◌, ◌≢◌, ◌∙◌, arith, sym, ap, subst, refl, ℕ, Bool, true, false, ◌==◌, List}
use Rattle.std.proofs.Common.{[], ◌∷◌, ◌++◌}
use Rattle.std.proofs.lemmas.Bool.Decides.{nat_tests}
use Rattle.machine.specs.Lines.{Lines, onto_line, lines}

-- the parts of a text whose front has the parts s, and which goes on by b
abbrev pub onto : Lines → List ℕ → Lines
onto s b = (s.0 ++ (lines (s.1 ++ b)).0, (lines (s.1 ++ b)).1)

onto-onto_line : (x : ℕ) → (x == 10) ≡ false → (s : Lines) (b : List ℕ) →
    onto_line x (onto s b) ≡ onto (onto_line x s) b
onto-onto_line x h ([], r) b = rw h refl
onto-onto_line x h (l ∷ ls, r) b = refl

lines-cons : (x : ℕ) (test : Bool) → (x == 10) ≡ test → (a b : List ℕ) → lines (a ++ b) ≡ onto (lines a) b →
    lines (x ∷ a ++ b) ≡ onto (lines (x ∷ a)) b
lines-cons x true h a b e = rw (h, e) refl
lines-cons x false h a b e = rw (h, e) (onto-onto_line x h (lines a) b)

-- a text in two pieces
pub lines-append : (a b : List ℕ) → lines (a ++ b) ≡ onto (lines a) b
lines-append [] b = refl
lines-append (x ∷ a) b = lines-cons x (x == 10) refl a b (lines-append a b)

-- bytes without a line end
abbrev pub IsPartial : List ℕ → Type 0
IsPartial [] = Unit {0}
IsPartial (b ∷ bs) = ((b == 10) ≡ false) × IsPartial bs

last-before : (x : ℕ) → (x == 10) ≡ false → (s : Lines) → IsPartial s.1 → IsPartial (onto_line x s).1
last-before x h ([], r) p = (h, p)
last-before x h (l ∷ ls, r) p = p

lines-head : (x : ℕ) → (x == 10) ≡ false → (a : List ℕ) → lines (x ∷ a) ≡ onto_line x (lines a)
lines-head x h a = rw h refl

lines-end : (x : ℕ) → (x == 10) ≡ true → (a : List ℕ) → lines (x ∷ a) ≡ ([] ∷ (lines a).0, (lines a).1)
lines-end x h a = rw h refl

last-cons : (x : ℕ) (test : Bool) → (x == 10) ≡ test → (a : List ℕ) → IsPartial (lines a).1 →
    IsPartial (lines (x ∷ a)).1
last-cons x true h a p = subst (λ (s : Lines). IsPartial s.1) (sym (lines-end x h a)) p
last-cons x false h a p = subst (λ (s : Lines). IsPartial s.1) (sym (lines-head x h a)) (last-before x h (lines a) p)

-- what is behind the last line end has none
last-partial : (a : List ℕ) → IsPartial (lines a).1
last-partial [] = tt
last-partial (x ∷ a) = last-cons x (x == 10) refl a (last-partial a)

lines-partial : (a : List ℕ) → IsPartial a → lines a ≡ ([], a)
lines-partial [] p = refl
lines-partial (x ∷ a) p = let e : (x == 10) ≡ false = p.0 in rw (e, lines-partial a p.1) refl

partial-push : (a : List ℕ) (b : ℕ) → (b == 10) ≡ false → IsPartial a → IsPartial (a ++ b ∷ [])
partial-push [] b h p = (h, tt)
partial-push (x ∷ a) b h p = (p.0, partial-push a b h p.1)

-- one more byte that is no line end
lines-push : (a : List ℕ) (b : ℕ) → b ≢ 10 → IsPartial a → lines (a ++ b ∷ []) ≡ ([], a ++ b ∷ [])
lines-push a b ne p = lines-partial (a ++ b ∷ []) (partial-push a b (grind (arith, nat_tests)) p)

-- a line end
lines-line : (a : List ℕ) → IsPartial a → lines (a ++ 10 ∷ []) ≡ (a ∷ [], [])
lines-line [] p = refl
lines-line (x ∷ a) p = let e : (x == 10) ≡ false = p.0 in rw (e, lines-line a p.1) refl

-- what is behind the last line end is a line that isn't ended
pub rest-is : (a : List ℕ) (ls : List (List ℕ)) (rest : List ℕ) → lines a ≡ (ls, rest) → lines rest ≡ ([], rest)
rest-is a ls rest e = lines-partial rest (subst IsPartial (ap (λ (s : Lines). s.1) e) (last-partial a))

-- one more byte of a line that isn't ended
pub more-byte : (line : List ℕ) (b : ℕ) → b ≢ 10 → lines line ≡ ([], line) →
    lines (line ++ b ∷ []) ≡ ([], line ++ b ∷ [])
more-byte line b ne e = lines-push line b ne (subst IsPartial (ap (λ (s : Lines). s.1) e) (last-partial line))

-- its end
pub line-end : (line : List ℕ) (b : ℕ) → b ≡ 10 → lines line ≡ ([], line) → lines (line ++ b ∷ []) ≡ (line ∷ [], [])
line-end line b is e = ap (λ (x : ℕ). lines (line ++ x ∷ [])) is
    ∙ lines-line line (subst IsPartial (ap (λ (s : Lines). s.1) e) (last-partial line))

-- more bytes, behind some whose lines are known
pub lines-then : (a b : List ℕ) (ls ms : List (List ℕ)) (rest last : List ℕ) → lines a ≡ (ls, rest) →
    lines (rest ++ b) ≡ (ms, last) → lines (a ++ b) ≡ (ls ++ ms, last)
lines-then a b ls ms rest last e f =
    lines-append a b ∙ ap (λ (s : Lines). onto s b) e ∙ ap (λ (s : Lines). (ls ++ s.0, s.1)) f
