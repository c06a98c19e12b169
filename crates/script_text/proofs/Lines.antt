use Rattle.std.proofs.Common.{◌≡◌, ℕ, suc, IsUtf8, ⊎_elim, ◌+◌, ◌^◌, ◌<◌, Bool, true, false, not, ◌||◌, cond, if◌then◌else◌, Option, Some, None, option_map, List, [], ◌∷◌, get_or, length, drop, ap, refl, sym, subst, ◌∙◌, ◌==◌, MatchOption, Bor, arith}
use Rattle.std.specs.List.{position_or_len, list_any, starts_with, before_first, after_first}
use Rattle.std.specs.Str.{is_utf8, IsCharBoundary}
use Rattle.std.specs.Str.Pattern.{FindsTextPrefix, StripsPrefix}
use Rattle.std.proofs.lemmas.Str.Pattern.{starts_text}
use Rattle.std.proofs.lemmas.Bool.{cases_Bool, ne_eqb}
use Rattle.std.proofs.lemmas.Str.{IsUtf8-from_is_utf8}
use Rattle.machine.specs.Lines.{Line, Passed, Receive, read_line, read_form, read_number, of_text, is_space}

-- a line that isn't empty
pub read_line-cons : (text : List ℕ) → 0 < length text → read_line text ≡ (if get_or text 0 0 == 35 then Some Passed else (if is_utf8 text then read_form text else None))
read_line-cons [] h = absurd (omega arith)
read_line-cons (b ∷ bs) h = refl

-- a line that is no comment
pub read_line-other : (text : List ℕ) (b : Bool) → 0 < length text → (get_or text 0 0 ≡ 35 → ⊥) → is_utf8 text ≡ b → read_line text ≡ (if b then read_form text else None)
read_line-other text b h k u =
    read_line-cons text h ∙ ap (λ c. if c then Some Passed else (if is_utf8 text then read_form text else None)) (ne_eqb (get_or text 0 0) 35 k) ∙ ap (λ c. if c then read_form text else None) u

-- `strip_prefix` at a text, in the words of lists
pub stripped : (start text : List ℕ) (r : Option (Bor (List ℕ))) → MatchOption r (FindsTextPrefix start text None) (λ x. StripsPrefix (FindsTextPrefix start) text x.now) → MatchOption r (starts_with ◌==◌ text start ≡ false) (λ rest. (starts_with ◌==◌ text start ≡ true) × (rest.now ≡ drop (length start) text))
stripped start text None h = sym (starts_text false start text h)
stripped start text (Some x) h =
    let found = h.1 in
    (sym (starts_text true start text (h.0, found, subst (λ n. IsCharBoundary text n) (sym found.0) found.2)), h.2 ∙ ap (λ n. drop n text) found.0)

first_passes : (b a : Bool) (m n : ℕ) → cond (not b) (1 + m) 0 ≡ suc n → (m ≡ n → a ≡ false) → (b || a) ≡ false
first_passes true a m n h k = absurd (omega arith)
first_passes false a m n h k = k (omega arith)

none_passes : (p : ℕ → Bool) (xs : List ℕ) → position_or_len p xs ≡ length xs → list_any p xs ≡ false
none_passes p [] h = refl
none_passes p (x ∷ xs) h = first_passes (p x) (list_any p xs) (position_or_len p xs) (length xs) h (none_passes p xs)

first_fails : (b a : Bool) (m n : ℕ) → cond (not b) (1 + m) 0 < suc n → (m < n → a ≡ true) → (b || a) ≡ true
first_fails true a m n h k = refl
first_fails false a m n h k = k (omega arith)

some_passes : (p : ℕ → Bool) (xs : List ℕ) → position_or_len p xs < length xs → list_any p xs ≡ true
some_passes p [] h = absurd (omega arith)
some_passes p (x ∷ xs) h = first_fails (p x) (list_any p xs) (position_or_len p xs) (length xs) h (some_passes p xs)

abbrev parts : List ℕ → Option Line
parts text = option_map (λ c. Receive c (after_first is_space text)) (read_number (2 ^ 32) (before_first is_space text))

-- a text without a space
pub no_text : (text : List ℕ) → position_or_len is_space text ≡ length text → of_text text ≡ None
no_text text h = ap (λ b. if b then parts text else None) (none_passes is_space text h)

-- a text with a space
pub some_text : (text : List ℕ) → position_or_len is_space text < length text → of_text text ≡ option_map (λ c. Receive c (after_first is_space text)) (read_number (2 ^ 32) (before_first is_space text))
some_text text h = ap (λ b. if b then parts text else None) (some_passes is_space text h)

pub not_utf8 : (text : List ℕ) → ¬ (IsUtf8 text) → is_utf8 text ≡ false
not_utf8 text h = ⊎_elim (λ e. absurd (h (IsUtf8-from_is_utf8 text e))) (λ e. e) (cases_Bool (is_utf8 text))
