-- What `parse` reads of a text is what the text spells, where it has the shape of a spelling.
use Rattle.std.proofs.Common.{◌≡◌, ◌≢◌, ◌⊎◌, inl, inr, ℕ, ℤ, pos, neg_ℤ, ◌-◌, ◌^◌, ◌<◌, ◌≤◌, ◌&&◌, ◌==◌, nat_le, nat_lt, not, Bool, true, false, if◌then◌else◌, List, [], ◌∷◌, length, drop, get_or, Some, None, option_map, refl, ap, arith, length-drop, Ok, Err}
use Rattle.std.specs.Str.{all_ascii_digits}
use Rattle.std.specs.Str.Parse.{digits_value, starts_with_minus, ParsesSigned}
use Rattle.std.specs.Result.{OkIff, result_ok}
use Rattle.std.specs.declared.result.Result.{Result}
use Rattle.std.proofs.lemmas.Bool.Decides.{nat_tests}
use Rattle.std.proofs.lemmas.Str.Parse.{IsNumeralModel, numerals_by_value, tells_all_ascii_digits, parse_signed_minus, parse_signed_plain}
use Rattle.std.proofs.Math.Pow.{pow-sub-lt}
use mir.Syntax.{Width}
use mir.Val.{hbits}
use Rattle.scalar_val.specs.Spellings.{are_digits, digits_up_to, integer_spelled}

own : IsNumeralModel (λ ds. all_ascii_digits ds ≡ true) (digits_value 10)
own = numerals_by_value _ tells_all_ascii_digits

from_iff : {E : Type 0} (f : ℕ → ℤ) (v : ℕ) (test : Bool) (P : Type 0) (r : Result ℤ E) → OkIff r P (f v) → (P → test ≡ true) → (test ≡ true → P) → result_ok r ≡ option_map f (if test then Some v else None)
from_iff f v true P (Ok z) h to back = ap Some h.1
from_iff f v false P (Ok z) h to back = let e = to h.0 in cc
from_iff f v true P (Err e) h to back = absurd (h (back refl))
from_iff f v false P (Err e) h to back = refl

to_test : (n v most : ℕ) (all : Bool) → n ≤ 19 → (all ≡ true) × (0 < n) × (v ≤ most) → ((nat_lt 0 n && nat_le n 19 && all) && nat_le v most) ≡ true
to_test n v most all short h = grind (arith, nat_tests)

of_test : (n v most : ℕ) (all : Bool) → ((nat_lt 0 n && nat_le n 19 && all) && nat_le v most) ≡ true → (all ≡ true) × (0 < n) × (v ≤ most)
of_test n v most all h = grind (arith, nat_tests)

abbrev pub has_shape : List ℕ → Bool
has_shape text = not (get_or text 0 0 == 43) && nat_le (length text) (if starts_with_minus text then 20 else 19)

signed : {E : Type 0} (w : Width) (text : List ℕ) (r : Result ℤ E) → ParsesSigned w 10 text r → get_or text 0 0 ≡ 45 → length text ≤ 20 → result_ok r ≡ option_map (λ n. neg_ℤ (pos n)) (digits_up_to (2 ^ hbits w) (drop 1 text))
signed w text r h minus short =
    from_iff (λ n. neg_ℤ (pos n)) _ _ _ r (parse_signed_minus own w text r h minus)
    (to_test (length (drop 1 text)) _ (2 ^ hbits w) _ (omega (arith, length-drop 1 text)))
    (of_test (length (drop 1 text)) _ (2 ^ hbits w) _)

positive : (k : ℕ) → 0 < 2 ^ k
positive k = let one : 0 < 1 = omega arith in omega (arith, pow-sub-lt k one)

plain : {E : Type 0} (w : Width) (text : List ℕ) (r : Result ℤ E) → ParsesSigned w 10 text r → get_or text 0 0 ≢ 43 → get_or text 0 0 ≢ 45 → length text ≤ 19 → result_ok r ≡ option_map pos (digits_up_to (2 ^ hbits w - 1) text)
plain w text r h no_plus no_minus short =
    from_iff pos _ _ _ r (parse_signed_plain own w text r h no_plus no_minus)
    (λ p. to_test (length text) _ (2 ^ hbits w - 1) _ short (p.0, p.1, omega arith))
    (λ t. let p = of_test (length text) _ (2 ^ hbits w - 1) _ t in (p.0, p.1, omega (arith, positive (hbits w))))

with_minus : (first n : ℕ) → (first == 45) ≡ true → (not (first == 43) && nat_le n (if first == 45 then 20 else 19)) ≡ true → (first ≡ 45) × (n ≤ 20)
with_minus first n e h = grind (arith, nat_tests)

without_minus : (first n : ℕ) → (first == 45) ≡ false → (not (first == 43) && nat_le n (if first == 45 then 20 else 19)) ≡ true → (first ≢ 43) × (first ≢ 45) × (n ≤ 19)
without_minus first n e h = grind (arith, nat_tests)

long_minus : (first n : ℕ) → (first == 45) ≡ true → (not (first == 43) && nat_le n (if first == 45 then 20 else 19)) ≡ false → 20 < n
long_minus first n e h = grind (arith, nat_tests)

plus_or_long : (first n : ℕ) → (first == 45) ≡ false → (not (first == 43) && nat_le n (if first == 45 then 20 else 19)) ≡ false → (first ≡ 43) ⊎ (19 < n)
plus_or_long first n e h = grind (arith, nat_tests)

by_sign : {E : Type 0} (w : Width) (text : List ℕ) (r : Result ℤ E) → ParsesSigned w 10 text r → (minus : Bool) → starts_with_minus text ≡ minus → has_shape text ≡ true → result_ok r ≡ integer_spelled (hbits w) text
by_sign w text r h true e shape = let p = with_minus (get_or text 0 0) (length text) e shape in rw e (signed w text r h p.0 p.1)
by_sign w text r h false e shape = let p = without_minus (get_or text 0 0) (length text) e shape in rw e (plain w text r h p.0 p.1 p.2)

pub spelled_where_parsed : {E : Type 0} (w : Width) (text : List ℕ) (r : Result ℤ E) → ParsesSigned w 10 text r → has_shape text ≡ true → result_ok r ≡ integer_spelled (hbits w) text
spelled_where_parsed w text r h shape = by_sign w text r h (starts_with_minus text) refl shape

too_long : (n : ℕ) (all : Bool) → 19 < n → (nat_lt 0 n && nat_le n 19 && all) ≡ false
too_long n all h = grind (arith, nat_tests)

no_digit : (a b all : Bool) → all ≡ false → (a && b && all) ≡ false
no_digit true true all h = h
no_digit true false all h = refl
no_digit false b all h = refl

plus_first : (text : List ℕ) → get_or text 0 0 ≡ 43 → all_ascii_digits text ≡ false
plus_first [] h = cc
plus_first (c ∷ cs) h = rw h refl

no_digits : (most : ℕ) (ds : List ℕ) → are_digits ds ≡ false → digits_up_to most ds ≡ None
no_digits most ds h = rw h refl

no_number : (most : ℕ) (text : List ℕ) → (get_or text 0 0 ≡ 43) ⊎ (19 < length text) → digits_up_to most text ≡ None
no_number most text (inl plus) = no_digits most text (no_digit (nat_lt 0 (length text)) (nat_le (length text) 19) (all_ascii_digits text) (plus_first text plus))
no_number most text (inr long) = no_digits most text (too_long (length text) (all_ascii_digits text) long)

by_no_shape : (bits : ℕ) (text : List ℕ) (minus : Bool) → starts_with_minus text ≡ minus → has_shape text ≡ false → integer_spelled bits text ≡ None
by_no_shape bits text true e shape =
    let long = long_minus (get_or text 0 0) (length text) e shape in
    rw e (ap (option_map (λ n. neg_ℤ (pos n))) (no_number (2 ^ bits) (drop 1 text) (inr (omega (arith, length-drop 1 text)))))
by_no_shape bits text false e shape = rw e (ap (option_map pos) (no_number (2 ^ bits - 1) text (plus_or_long (get_or text 0 0) (length text) e shape)))

pub no_other_shape : (bits : ℕ) (text : List ℕ) → has_shape text ≡ false → integer_spelled bits text ≡ None
no_other_shape bits text shape = by_no_shape bits text (starts_with_minus text) refl shape
