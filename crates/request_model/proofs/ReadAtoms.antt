-- Values that are a name, an integer or a word: their texts tell them.
use Rattle.std.proofs.Common.{◌≡◌, ℕ, ◌+◌, ◌≤◌, Bool, true, false, cond, ◌&&◌, ◌==◌, [], ◌∷◌, length, refl, ap, sym, ◌∙◌, inl, inr, ◌⊎◌, arith}
use Rattle.std.proofs.lemmas.Bool.{false≢true, eqb-true, ne_eqb, lt-leb, leb-true, cases_Bool, or_left, and_parts, and_from}
use Rattle.std.proofs.lemmas.Slice.Eq.{bytes_eq-Decides}
use Rattle.std.specs.Prelude.{IsTrue, slice_index, codes, leb}
use Rattle.std.specs.Char.{is_ascii_digit}
use Rattle.std.specs.Str.{bytes_eq}
use Rattle.std.specs.List.{list_all, prefix_len}
use Rattle.request_model.specs.declared.document.GValue.{GValue}
use Rattle.request_model.specs.declared.document.GPair.{GPair}
use Rattle.request_model.specs.declared.document.GValue.TheOpen.{GValue-F}
use Rattle.request_model.specs.Strings.{Text}
use Rattle.request_model.specs.Lexemes.{starts_name, is_in_name, digits_len}
use Rattle.request_model.specs.SelectionLaws.{is_name, is_int, is_enum}
use Rattle.request_model.proofs.ReadNames.{is_part}

-- ---- bytes

all_pass : (f g : ℕ → Bool) → ((b : ℕ) → f b ≡ true → g b ≡ true) → (t : Text) → IsTrue (list_all f t) → IsTrue (list_all g t)
all_pass f g more [] h = refl
all_pass f g more (b ∷ t) h =
    let p = and_parts (f b) (list_all f t) h in
    and_from (g b) (list_all g t) (more b p.0) (all_pass f g more t p.1)

whole : (f : ℕ → Bool) (t : Text) → prefix_len f t ≡ length t → IsTrue (list_all f t)
whole f [] h = refl
whole f (b ∷ t) h = go (whole f t) (f b) refl h
  where
    go : (prefix_len f t ≡ length t → IsTrue (list_all f t)) → (passes : Bool) → f b ≡ passes → cond passes (1 + prefix_len f t) 0 ≡ length (b ∷ t) → (f b && list_all f t) ≡ true
    go rest true e h = and_from (f b) (list_all f t) e (rest (omega (arith, h)))
    go rest false e h = absurd (omega (arith, h))

name_is_part : (b : ℕ) → is_in_name b ≡ true → is_part b ≡ true
name_is_part b h = or_left (is_in_name b) (b == 45) h

digit_is_part : (b : ℕ) → is_ascii_digit b ≡ true → is_part b ≡ true
digit_is_part b h = rw h refl

digit_starts_none : (b : ℕ) → is_ascii_digit b ≡ true → starts_name b ≡ false
digit_starts_none b h =
    let most : b ≤ 57 = leb-true b 57 (and_parts (leb 48 b) (leb b 57) h).1 in
    let upper : leb 65 b ≡ false = lt-leb 65 b (omega (arith, most)) in
    let lower : leb 97 b ≡ false = lt-leb 97 b (omega (arith, most)) in
    let line : (b == 95) ≡ false = ne_eqb b 95 (λ e. omega (arith, most, e)) in
    rw upper (rw lower line)

-- ---- names

pub name_parts : (t : Text) → IsTrue (is_name t) → IsTrue (list_all is_part t)
name_parts t h = all_pass is_in_name is_part name_is_part t (whole is_in_name t (eqb-true _ _ (and_parts _ _ h).1))

-- ---- integers

digits_parts : (t : Text) → digits_len t ≡ length t → IsTrue (list_all is_part t)
digits_parts [] h = refl
digits_parts (b ∷ []) h = go (b == 48) refl h
  where
    go : (zero_first : Bool) → (b == 48) ≡ zero_first → cond zero_first 1 (prefix_len is_ascii_digit (b ∷ [])) ≡ 1 → IsTrue (list_all is_part (b ∷ []))
    go true e h = and_from (is_part b) true (ap is_part (eqb-true b 48 e)) refl
    go false e h = all_pass is_ascii_digit is_part digit_is_part (b ∷ []) (whole is_ascii_digit (b ∷ []) h)
digits_parts (b ∷ c ∷ t) h = go (b == 48) refl h
  where
    go : (zero_first : Bool) → (b == 48) ≡ zero_first → cond zero_first 1 (prefix_len is_ascii_digit (b ∷ c ∷ t)) ≡ length (b ∷ c ∷ t) → IsTrue (list_all is_part (b ∷ c ∷ t))
    go true e h = absurd (omega (arith, h))
    go false e h = all_pass is_ascii_digit is_part digit_is_part (b ∷ c ∷ t) (whole is_ascii_digit (b ∷ c ∷ t) h)

pub int_parts : (t : Text) → IsTrue (is_int t) → IsTrue (list_all is_part t)
int_parts [] h = refl
int_parts (b ∷ t) h = go (b == 45) refl (eqb-true _ _ (and_parts _ _ h).1)
  where
    minus : (none : Bool) → cond none 0 (digits_len t + 1) ≡ length (b ∷ t) → digits_len t ≡ length t
    minus true h = absurd (omega (arith, h))
    minus false h = omega (arith, h)

    go : (signed : Bool) → (b == 45) ≡ signed → cond signed (cond (digits_len t == 0) 0 (digits_len t + 1)) (digits_len (b ∷ t)) ≡ length (b ∷ t) → IsTrue (list_all is_part (b ∷ t))
    go true e h = and_from (is_part b) (list_all is_part t) (ap is_part (eqb-true b 45 e)) (digits_parts t (minus (digits_len t == 0) h))
    go false e h = digits_parts (b ∷ t) h

-- an integer begins as no name does
int_starts_none : (t : Text) → IsTrue (is_int t) → starts_name (slice_index t 0) ≡ false
int_starts_none [] h = refl
int_starts_none (b ∷ t) h = go (b == 45) refl (eqb-true _ _ (and_parts _ _ h).1)
  where
    first : (is_digit : Bool) → is_ascii_digit b ≡ is_digit → cond is_digit (1 + prefix_len is_ascii_digit t) 0 ≡ length (b ∷ t) → starts_name b ≡ false
    first true e h = digit_starts_none b e
    first false e h = absurd (omega (arith, h))

    digits : (zero_first : Bool) → (b == 48) ≡ zero_first → cond zero_first 1 (prefix_len is_ascii_digit (b ∷ t)) ≡ length (b ∷ t) → starts_name b ≡ false
    digits true e h = ap starts_name (eqb-true b 48 e)
    digits false e h = first (is_ascii_digit b) refl h

    go : (signed : Bool) → (b == 45) ≡ signed → cond signed (cond (digits_len t == 0) 0 (digits_len t + 1)) (digits_len (b ∷ t)) ≡ length (b ∷ t) → starts_name b ≡ false
    go true e h = ap starts_name (eqb-true b 45 e)
    go false e h = digits (b == 48) refl h

-- ---- the value that a name, an integer or a word is

abbrev word_by : Bool → Bool → Bool → Bool → Text → GValue-F GValue GPair
word_by true f n s t = GValue-F.Bool true
word_by false true n s t = GValue-F.Bool false
word_by false false true s t = GValue-F.Null
word_by false false false true t = GValue-F.Enum t
word_by false false false false t = GValue-F.Int t

abbrev pub atom_value : Text → GValue-F GValue GPair
atom_value t = word_by (bytes_eq t (codes "true")) (bytes_eq t (codes "false")) (bytes_eq t (codes "null")) (starts_name (slice_index t 0)) t

-- a test that fails at w tells a text that passes from w
other : (f : Text → Bool) (t w : Text) → IsTrue (f t) → f w ≡ false → bytes_eq t w ≡ false
other f t w yes_ no_ = go (cases_Bool (bytes_eq t w))
  where
    go : (bytes_eq t w ≡ true) ⊎ (bytes_eq t w ≡ false) → bytes_eq t w ≡ false
    go (inl e) = absurd (false≢true (sym no_ ∙ ap f (sym ((bytes_eq-Decides t w).0 e)) ∙ yes_))
    go (inr e) = e

pub atom-Int : (t : Text) → IsTrue (is_int t) → atom_value t ≡ GValue-F.Int t
atom-Int t h = rw (other is_int t (codes "true") h refl) (rw (other is_int t (codes "false") h refl) (rw (other is_int t (codes "null") h refl) (rw (int_starts_none t h) refl)))

pub atom-Enum : (t : Text) → IsTrue (is_enum t) → atom_value t ≡ GValue-F.Enum t
atom-Enum t h =
    let starts : starts_name (slice_index t 0) ≡ true = (and_parts _ _ (and_parts _ _ h).0).0 in
    rw (other is_enum t (codes "true") h refl) (rw (other is_enum t (codes "false") h refl) (rw (other is_enum t (codes "null") h refl) (rw starts refl)))
