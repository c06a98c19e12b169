-- The names and integers among the lexemes of a text are names and integers.
use Rattle.std.proofs.Common.{◌≡◌, ℕ, zero, suc, ◌+◌, ◌-◌, ◌<◌, Bool, true, false, cond, ◌&&◌, ◌||◌, ◌==◌, List, [], ◌∷◌, length, take, drop, Option, Some, None, refl, ap, ap₂, sym, subst, ◌∙◌, inl, inr, ◌⊎◌, arith}
use Rattle.std.proofs.lemmas.Bool.{false≢true, eq-eqb, lt-ltb, and_from, or_cases, or_left, or_right, or_parts, cond_both}
use Rattle.std.proofs.lemmas.List.{drop-drop}
use Rattle.std.proofs.lemmas.List.Folds.{length-prefix_len}
use Rattle.std.specs.Prelude.{IsTrue, slice_index}
use Rattle.std.specs.Char.{is_ascii_digit, is_ascii_alphabetic}
use Rattle.std.specs.Int.{is_in_range}
use Rattle.std.specs.List.{prefix_len, AllByRecursion}
use Rattle.request_model.specs.declared.token.TokenKind.{TokenKind}
use Rattle.request_model.specs.declared.token.TokenKind.TheVariants as kind
use Rattle.request_model.specs.Strings.{Text, closed_from}
use Rattle.request_model.specs.Lexemes.{Front, Ignored, Found, Bad, is_blank, is_mark, is_punct, starts_name, is_in_name, digits_len, int_len, closed, front, with_front, lexemes_from, lexemes}
use Rattle.request_model.specs.Grammar.{Lexeme, Punct, Spread, Name, Int, Quoted}
use Rattle.request_model.specs.Place.{lexeme, lexemes_of}
use Rattle.request_model.specs.SelectionLaws.{is_name, is_int}

-- ---- the longest run

run_of_taken : (f : ℕ → Bool) (t : Text) → prefix_len f (take (prefix_len f t) t) ≡ prefix_len f t
run_of_taken f [] = refl
run_of_taken f (b ∷ t) = go (f b) refl (run_of_taken f t)
  where
    go : (c : Bool) → f b ≡ c → prefix_len f (take (prefix_len f t) t) ≡ prefix_len f t → prefix_len f (take (cond c (1 + prefix_len f t) 0) (b ∷ t)) ≡ cond c (1 + prefix_len f t) 0
    go true e rest =
        let one : cond (f b) (1 + prefix_len f (take (prefix_len f t) t)) 0 ≡ suc (prefix_len f t) = rw e (rw rest (omega arith)) in
        subst (λ n. prefix_len f (take n (b ∷ t)) ≡ n) (omega arith) one
    go false e rest = refl

-- ---- names

starts_in_name : (b : ℕ) → starts_name b ≡ true → is_in_name b ≡ true
starts_in_name b h = last (or_cases (is_ascii_alphabetic b) (b == 95) h)
  where
    letter : (is_in_range 65 90 b ≡ true) ⊎ (is_in_range 97 122 b ≡ true) → is_in_name b ≡ true
    letter (inl e) = or_left (is_ascii_digit b || is_in_range 65 90 b || is_in_range 97 122 b) (b == 95) (or_left (is_ascii_digit b || is_in_range 65 90 b) (is_in_range 97 122 b) (or_right (is_ascii_digit b) (is_in_range 65 90 b) e))
    letter (inr e) = or_left (is_ascii_digit b || is_in_range 65 90 b || is_in_range 97 122 b) (b == 95) (or_right (is_ascii_digit b || is_in_range 65 90 b) (is_in_range 97 122 b) e)

    last : (is_ascii_alphabetic b ≡ true) ⊎ ((b == 95) ≡ true) → is_in_name b ≡ true
    last (inl e) = letter (or_cases (is_in_range 65 90 b) (is_in_range 97 122 b) e)
    last (inr e) = or_right (is_ascii_digit b || is_in_range 65 90 b || is_in_range 97 122 b) (b == 95) e

name_taken : (b : ℕ) (z : Text) → starts_name b ≡ true → IsTrue (is_name (take (prefix_len is_in_name (b ∷ z)) (b ∷ z)))
name_taken b z h =
    let run = prefix_len is_in_name (b ∷ z) in
    let longer : cond (is_in_name b) (1 + prefix_len is_in_name z) 0 ≡ suc (prefix_len is_in_name z) = rw (starts_in_name b h) (omega arith) in
    and_from (starts_name (slice_index (take run (b ∷ z)) 0)) (prefix_len is_in_name (take run (b ∷ z)) == length (take run (b ∷ z)))
    (subst (λ n. starts_name (slice_index (take n (b ∷ z)) 0) ≡ true) (sym longer) h)
    (eq-eqb _ _ (run_of_taken is_in_name (b ∷ z) ∙ sym (length-prefix_len is_in_name (b ∷ z))))

-- ---- integers

first_apart : (b k n : ℕ) (z : Text) → (0 == k) ≡ false → (b == k) ≡ false → (slice_index (take n (b ∷ z)) 0 == k) ≡ false
first_apart b k zero z none e = none
first_apart b k (suc n) z none e = e

digits_taken : (t : Text) → (digits_len (take (digits_len t) t) ≡ digits_len t) × (length (take (digits_len t) t) ≡ digits_len t)
digits_taken [] = (refl, refl)
digits_taken (b ∷ t) = go (b == 48) refl
  where
    go : (c : Bool) → (b == 48) ≡ c → (digits_len (take (cond c 1 (prefix_len is_ascii_digit (b ∷ t))) (b ∷ t)) ≡ cond c 1 (prefix_len is_ascii_digit (b ∷ t))) × (length (take (cond c 1 (prefix_len is_ascii_digit (b ∷ t))) (b ∷ t)) ≡ cond c 1 (prefix_len is_ascii_digit (b ∷ t)))
    go true e = (rw e refl, refl)
    go false e = (rw (first_apart b 48 (prefix_len is_ascii_digit (b ∷ t)) t refl e) (run_of_taken is_ascii_digit (b ∷ t)), length-prefix_len is_ascii_digit (b ∷ t))

is_int_from : (t : Text) (n : ℕ) → 0 < n → int_len t ≡ n → length t ≡ n → IsTrue (is_int t)
is_int_from t n h e l = and_from _ (int_len t == length t) (lt-ltb 0 (length t) (omega (arith, h, l))) (eq-eqb _ _ (e ∙ sym l))

positive : (n : ℕ) → (n == 0) ≡ false → 0 < n
positive zero h = absurd (false≢true (sym h))
positive (suc n) h = omega arith

int_taken : (z : Text) → (int_len z == 0) ≡ false → IsTrue (is_int (take (int_len z) z))
int_taken [] h = absurd (false≢true (sym h))
int_taken (b ∷ z) h = go (b == 45) refl h
  where
    minus : (c : Bool) → (digits_len z == 0) ≡ c → (b == 45) ≡ true → (cond c 0 (digits_len z + 1) == 0) ≡ false → IsTrue (is_int (take (cond c 0 (digits_len z + 1)) (b ∷ z)))
    minus true e m k = absurd (false≢true (sym k))
    minus false e m k =
        let d = digits_len z in
        let length_is : length (b ∷ take d z) ≡ d + 1 = omega (arith, (digits_taken z).1) in
        let int_is : cond (b == 45) (cond (digits_len (take d z) == 0) 0 (digits_len (take d z) + 1)) (digits_len (b ∷ take d z)) ≡ d + 1 = rw m (rw (digits_taken z).0 (rw e refl)) in
        let next : suc d ≡ d + 1 = omega arith in
        subst (λ n. IsTrue (is_int (take n (b ∷ z)))) next (is_int_from (b ∷ take d z) (d + 1) (omega arith) int_is length_is)

    go : (c : Bool) → (b == 45) ≡ c → (cond c (cond (digits_len z == 0) 0 (digits_len z + 1)) (digits_len (b ∷ z)) == 0) ≡ false → IsTrue (is_int (take (cond c (cond (digits_len z == 0) 0 (digits_len z + 1)) (digits_len (b ∷ z))) (b ∷ z)))
    go true e k = minus (digits_len z == 0) refl e k
    go false e k =
        let n = digits_len (b ∷ z) in
        is_int_from (take n (b ∷ z)) n (positive n k) (rw (first_apart b 45 n z refl e) (digits_taken (b ∷ z)).0) (digits_taken (b ∷ z)).1

-- ---- fronts

abbrev GoodFound : TokenKind → ℕ → Text → Type 0
GoodFound (kind.Punct b) n z = Unit {0}
GoodFound kind.Spread n z = Unit {0}
GoodFound kind.Name n z = IsTrue (is_name (take n z))
GoodFound kind.Int n z = IsTrue (is_int (take n z))
GoodFound kind.Text n z = Unit {0}

abbrev GoodFront : Text → Front → Type 0
GoodFront z (Ignored n) = Unit {0}
GoodFront z (Found k n) = GoodFound k n z
GoodFront z Bad = Unit {0}

good_closed : (z : Text) (o : Option ℕ) → GoodFront z (closed o)
good_closed z None = tt
good_closed z (Some n) = tt

good_front : (b : ℕ) (z : Text) → GoodFront (b ∷ z) (front (b ∷ z))
unfolding front
good_front b z =
    let G = GoodFront (b ∷ z) in
    cond_both (is_blank b) _ _ G (λ e. tt) (λ e1. cond_both (b == 35) _ _ G (λ e. tt) (λ e2. cond_both (is_mark (b ∷ z)) _ _ G (λ e. tt) (λ e3. cond_both (is_punct b) _ _ G (λ e. tt) (λ e4.
    cond_both (b == 46) _ _ G (λ e. cond_both (slice_index (b ∷ z) 1 == 46 && slice_index (b ∷ z) 2 == 46) _ _ G (λ d. tt) (λ d. tt)) (λ e5.
    cond_both (starts_name b) _ _ G (λ e. name_taken b z e) (λ e6.
    cond_both (b == 34) _ _ G (λ e. cond_both (slice_index (b ∷ z) 1 == 34 && slice_index (b ∷ z) 2 == 34) _ _ G (λ d. tt) (λ d. good_closed (b ∷ z) (closed_from 0 z))) (λ e7.
    let n = int_len (b ∷ z) in
    let next = slice_index (b ∷ z) n in
    cond_both (n == 0 || is_in_name next || next == 46) _ _ G (λ d. tt)
    (λ d. int_taken (b ∷ z) (or_parts (n == 0) (is_in_name next) (or_parts (n == 0 || is_in_name next) (next == 46) d).0).0))))))))

-- ---- lexemes

abbrev pub GoodLexeme : Lexeme → Type 0
GoodLexeme (Punct b) = Unit {0}
GoodLexeme Spread = Unit {0}
GoodLexeme (Name n) = IsTrue (is_name n)
GoodLexeme (Int n) = IsTrue (is_int n)
GoodLexeme (Quoted s) = Unit {0}

abbrev pub AreGood : List Lexeme → Type 0
AreGood = AllByRecursion GoodLexeme

taken : (at n : ℕ) → at + n - at ≡ n
taken at n = omega arith

good_from : (text : Text) (left at : ℕ) (z : Text) → drop at text ≡ z → AreGood (lexemes_of text (lexemes_from left at z).0)
good_from text left at [] e = tt
good_from text (suc left) at (b ∷ z) e = good_from text left (at + 1) z (sym (drop-drop 1 at text) ∙ ap (drop 1) e)
good_from text zero at (b ∷ z) e = go (front (b ∷ z)) (good_front b z) (λ left. good_from text left (at + 1) z (sym (drop-drop 1 at text) ∙ ap (drop 1) e))
  where
    found : (k : TokenKind) (n : ℕ) → GoodFound k n (b ∷ z) → GoodLexeme (lexeme text (record { kind = k; start = at; end = at + n }))
    found (kind.Punct b) n g = tt
    found kind.Spread n g = tt
    found kind.Name n g = ap₂ (λ m y. is_name (take m y)) (taken at n) e ∙ g
    found kind.Int n g = ap₂ (λ m y. is_int (take m y)) (taken at n) e ∙ g
    found kind.Text n g = tt

    go : (f : Front) → GoodFront (b ∷ z) f → ((left : ℕ) → AreGood (lexemes_of text (lexemes_from left (at + 1) z).0)) → AreGood (lexemes_of text (with_front f at (λ left. lexemes_from left (at + 1) z)).0)
    go (Ignored n) g rest = rest (n - 1)
    go (Found k n) g rest = (found k n g, rest (n - 1))
    go Bad g rest = tt

pub good_lexemes : (text : Text) → AreGood (lexemes_of text (lexemes text).0)
unfolding lexemes
good_lexemes text = good_from text 0 0 text refl
