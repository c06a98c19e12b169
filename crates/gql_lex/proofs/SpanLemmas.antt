-- Where the lexemes of a text stand in it.
use Rattle.std.proofs.Common.{◌≡◌, ◌≢◌, ℕ, zero, suc, ◌+◌, ◌-◌, ◌<◌, ◌≤◌, Bool, true, false, cond, ◌⊎◌, inl, inr, List, [], ◌∷◌, length, drop, Option, Some, None, refl, ap, sym, subst, ◌∙◌, arith, length-drop}
use Rattle.std.specs.Prelude.{◌==◌, ◌&&◌, ◌||◌, slice_index}
use Rattle.std.specs.Char.{is_ascii_digit}
use Rattle.std.specs.List.{prefix_len}
use Rattle.std.specs.Option.{option_map}
use Rattle.std.proofs.lemmas.Bool.{and_parts, cases_lt, eqb-true}
use Rattle.std.proofs.lemmas.Bool.Decides.{nat_tests}
use Rattle.std.proofs.lemmas.List.{drop-drop, get_or-drop, get_or_past}
use Rattle.std.proofs.lemmas.List.Sums.{prefix_len-le-length, prefix_len_passes}
use Rattle.request_model.specs.declared.token.Token.{Token}
use Rattle.request_model.specs.declared.token.TokenKind.{TokenKind}
use Rattle.request_model.specs.declared.token.TokenKind.TheVariants as kind
use Rattle.request_model.specs.Strings.{Text, character, closed_from, closed_after}
use Rattle.request_model.specs.Lexemes.{Front, Ignored, Found, Bad, front, is_blank, is_mark, is_punct, is_in_line, dots, starts_name, is_in_name, digits_len, int_len, int, closed, string, with_front, lexemes_from, lexemes}
use Rattle.gql_lex.specs.Spans.{IsSpan, AreSpans, AreInOrder}

-- what a lexeme at the front has
pub record IsFound (z : Text) (k : TokenKind) (n : ℕ) : Type 0 where
  pub on : 1 ≤ n
  pub within : n ≤ length z
  pub first : slice_index z 0 < 128
  pub last : slice_index z (n - 1) < 128
  pub quotes : k ≡ kind.Text → 2 ≤ n

abbrev pub IsFront : Text → Front → Type 0
IsFront z (Ignored n) = (1 ≤ n) × (n ≤ length z)
IsFront z (Found k n) = IsFound z k n
IsFront z Bad = Unit {0}

-- a choice between two fronts
either : (z : Text) (b : Bool) (x y : Front) → (b ≡ true → IsFront z x) → (b ≡ false → IsFront z y) → IsFront z (cond b x y)
either z true x y f g = f refl
either z false x y f g = g refl

-- ---- bytes

-- a byte that isn't 0 lies in the text
inside : (z : Text) (i b : ℕ) → slice_index z i ≡ b → b ≢ 0 → i < length z
inside z i b e ne = elim (cases_lt i (length z)) [ inl h ↦ h | inr h ↦ absurd (ne (sym e ∙ get_or_past z i 0 h)) ]

one_true : (p q : Bool) → p || q ≡ true → (p ≡ true) ⊎ (q ≡ true)
one_true true q e = inl refl
one_true false q e = inr e

name_ascii : (b : ℕ) → is_in_name b ≡ true → b < 128
name_ascii b e = grind (arith, nat_tests)

start_in_name : (b : ℕ) → starts_name b ≡ true → is_in_name b ≡ true
start_in_name b e = grind (arith, nat_tests)

digit_ascii : (b : ℕ) → is_ascii_digit b ≡ true → b < 128
digit_ascii b e = grind (arith, nat_tests)

punct_ascii : (b : ℕ) → is_punct b ≡ true → b < 128
punct_ascii b e = grind (arith, nat_tests)

-- ---- runs of a class of ASCII bytes

module _ (p : ℕ → Bool) (ascii : (b : ℕ) → p b ≡ true → b < 128) where
  run_first : (z : Text) → 1 ≤ prefix_len p z → slice_index z 0 < 128
  run_first z h = ascii (slice_index z 0) (prefix_len_passes p z 0 0 (omega arith))

  run_last : (z : Text) → 1 ≤ prefix_len p z → slice_index z (prefix_len p z - 1) < 128
  run_last z h = ascii (slice_index z (prefix_len p z - 1)) (prefix_len_passes p z (prefix_len p z - 1) 0 (omega arith))

run_starts : (p : ℕ → Bool) (z : Text) → 0 < length z → p (slice_index z 0) ≡ true → 1 ≤ prefix_len p z
run_starts p [] h e = absurd (omega arith)
run_starts p (b ∷ z) h e = rw e (omega arith)

-- ---- names

is_name : (z : Text) → 0 < length z → starts_name (slice_index z 0) ≡ true → IsFound z kind.Name (prefix_len is_in_name z)
is_name z h e =
    let on : 1 ≤ prefix_len is_in_name z = run_starts is_in_name z h (start_in_name (slice_index z 0) e) in
    record {
      on = on;
      within = prefix_len-le-length is_in_name z;
      first = run_first is_in_name name_ascii z on;
      last = run_last is_in_name name_ascii z on;
      quotes = λ q. absurd cc;
    }

-- ---- integers

abbrev AreDigits : Text → ℕ → Type 0
AreDigits z n = n ≢ 0 → (n ≤ length z) × (slice_index z 0 < 128) × (slice_index z (n - 1) < 128)

digits_at : (z : Text) (b : Bool) → slice_index z 0 == 48 ≡ b → AreDigits z (cond b 1 (prefix_len is_ascii_digit z))
digits_at z true e ne = let q = eqb-true (slice_index z 0) 48 e in (let k : 0 < length z = inside z 0 48 q (λ r. omega arith) in omega arith, omega arith, omega arith)
digits_at z false e ne = (prefix_len-le-length is_ascii_digit z, run_first is_ascii_digit digit_ascii z (omega arith), run_last is_ascii_digit digit_ascii z (omega arith))

digits_found : (z : Text) → AreDigits z (digits_len z)
digits_found z = digits_at z (slice_index z 0 == 48) refl

-- behind a minus
minus_at : (z : Text) (b : Bool) → slice_index z 0 ≡ 45 → digits_len (drop 1 z) == 0 ≡ b → AreDigits z (cond b 0 (digits_len (drop 1 z) + 1))
minus_at z true e q ne = absurd (ne refl)
minus_at z false e q ne =
    let n : ℕ = digits_len (drop 1 z) in
    let some : n ≢ 0 = λ r. let t : n == 0 ≡ true = ap (λ k. k == 0) r in let u : true ≡ false = sym t ∙ q in cc in
    let d = digits_found (drop 1 z) some in
    let last : slice_index z n ≡ slice_index (drop 1 z) (n - 1) = ap (slice_index z) (omega (arith, some)) ∙ sym (get_or-drop 1 z (n - 1) 0) in
    (omega (arith, d.0, length-drop 1 z, inside z 0 45 e (λ r. omega arith)), omega (arith, e), let back : n + 1 - 1 ≡ n = omega arith in rw back (rw last d.2))

int_at : (z : Text) (b : Bool) → slice_index z 0 == 45 ≡ b → AreDigits z (cond b (cond (digits_len (drop 1 z) == 0) 0 (digits_len (drop 1 z) + 1)) (digits_len z))
int_at z true e ne = minus_at z (digits_len (drop 1 z) == 0) (eqb-true (slice_index z 0) 45 e) refl ne
int_at z false e ne = digits_found z ne

int_found : (z : Text) → AreDigits z (int_len z)
int_found z = int_at z (slice_index z 0 == 45) refl

is_int : (z : Text) → IsFront z (int z)
is_int z = either z (int_len z == 0 || is_in_name (slice_index z (int_len z)) || slice_index z (int_len z) == 46) Bad (Found kind.Int (int_len z)) (λ _. tt)
    (λ e.
    let some : int_len z ≢ 0 = λ r. spoilt (int_len z == 0) _ _ e (ap (λ k. k == 0) r) in
    let d = int_found z some in
    record { on = omega (arith, some); within = d.0; first = d.1; last = d.2; quotes = λ q. absurd cc })
  where
    spoilt : (p q r : Bool) → p || q || r ≡ false → p ≡ true → ⊥
    spoilt true q r e f = cc
    spoilt false q r e f = cc

-- ---- strings

mapped : (a : Option ℕ) (n : ℕ) → option_map (λ k. k + 1) a ≡ Some n → (m : ℕ) × (a ≡ Some m) × (n ≡ m + 1)
mapped None n e = absurd cc
mapped (Some m) n e = let q : m + 1 ≡ n = cc in (m, refl, sym q)

-- the closing quote
abbrev IsClosed : Text → ℕ → Type 0
IsClosed z n = (1 ≤ n) × (n ≤ length z) × (slice_index z (n - 1) ≡ 34)

next_closed : (b : ℕ) (z : Text) (n : ℕ) (a : Option ℕ) → option_map (λ k. k + 1) a ≡ Some n → ((m : ℕ) → a ≡ Some m → IsClosed z m) → IsClosed (b ∷ z) n
next_closed b z n a e ih =
    let q = mapped a n e in
    let r = ih q.0 q.1 in
    let one : n - 1 ≡ suc (q.0 - 1) = omega (arith, q.2, r.0) in
    (omega (arith, q.2), omega (arith, q.2, r.1), ap (slice_index (b ∷ z)) one ∙ r.2)

pub closed_found : (z : Text) (left n : ℕ) → closed_from left z ≡ Some n → IsClosed z n
closed_found [] left n e = absurd cc
closed_found (b ∷ z) (suc left) n e = next_closed b z n (closed_from left z) e (λ m. closed_found z left m)
closed_found (b ∷ z) zero n e = at_quote (b == 34) refl e (λ left m. closed_found z left m)
  where
    at_character : (c : Option (Text × ℕ)) → closed_after c (λ left. closed_from left z) ≡ Some n → ((left m : ℕ) → closed_from left z ≡ Some m → IsClosed z m) → IsClosed (b ∷ z) n
    at_character None e ih = absurd cc
    at_character (Some c) e ih = next_closed b z n (closed_from (c.1 - 1) z) e (ih (c.1 - 1))

    at_quote : (q : Bool) → b == 34 ≡ q → cond q (Some 1) (closed_after (character (b ∷ z)) (λ left. closed_from left z)) ≡ Some n → ((left m : ℕ) → closed_from left z ≡ Some m → IsClosed z m) → IsClosed (b ∷ z) n
    at_quote true f e ih =
        let one : 1 ≡ n = cc in
        let first : n - 1 ≡ 0 = omega arith in
        (omega arith, omega arith, ap (slice_index (b ∷ z)) first ∙ eqb-true b 34 f)
    at_quote false f e ih = at_character (character (b ∷ z)) e ih

is_closed : (z : Text) (r : Option ℕ) → slice_index z 0 ≡ 34 → closed_from 0 (drop 1 z) ≡ r → IsFront z (closed r)
is_closed z None e h = tt
is_closed z (Some n) e h =
    let c = closed_found (drop 1 z) 0 n h in
    let last : slice_index z (n + 1 - 1) ≡ 34 = ap (slice_index z) (let k : n + 1 - 1 ≡ 1 + (n - 1) = omega (arith, c.0) in k) ∙ sym (get_or-drop 1 z (n - 1) 0) ∙ c.2 in
    record {
      on = omega arith;
      within = omega (arith, c.1, length-drop 1 z, inside z 0 34 e (λ r. omega arith));
      first = omega arith;
      last = omega arith;
      quotes = λ _. omega (arith, c.0);
    }

is_string : (z : Text) → slice_index z 0 ≡ 34 → IsFront z (string z)
is_string z e = either z (slice_index z 1 == 34 && slice_index z 2 == 34) Bad (closed (closed_from 0 (drop 1 z))) (λ _. tt) (λ _. is_closed z (closed_from 0 (drop 1 z)) e refl)

-- ---- the front

is_dots : (z : Text) → slice_index z 0 ≡ 46 → IsFront z (dots z)
is_dots z e =
    either z (slice_index z 1 == 46 && slice_index z 2 == 46) (Found kind.Spread 3) Bad
    (λ b.
    let third : slice_index z 2 ≡ 46 = eqb-true (slice_index z 2) 46 (and_parts _ _ b).1 in
    record { on = omega arith; within = (let k : 2 < length z = inside z 2 46 third (λ r. omega arith) in omega arith); first = omega arith; last = omega arith; quotes = λ q. absurd cc })
    (λ _. tt)

is_mark_len : (z : Text) → is_mark z ≡ true → 3 ≤ length z
is_mark_len z e = let k : 2 < length z = inside z 2 191 (eqb-true (slice_index z 2) 191 (and_parts _ _ e).1) (λ r. omega arith) in omega arith

is_comment : (z : Text) → 0 < length z → IsFront z (Ignored (1 + prefix_len is_in_line (drop 1 z)))
is_comment z h = (omega arith, omega (arith, prefix_len-le-length is_in_line (drop 1 z), length-drop 1 z))

is_one : (z : Text) → 0 < length z → is_punct (slice_index z 0) ≡ true → IsFront z (Found (kind.Punct (slice_index z 0)) 1)
is_one z h e =
    let ascii : slice_index z 0 < 128 = punct_ascii (slice_index z 0) e in
    record { on = omega arith; within = omega arith; first = ascii; last = ascii; quotes = λ q. absurd cc }

pub is_front : (z : Text) → 0 < length z → IsFront z (front z)
unfolding front
is_front z h =
    either z (is_blank (slice_index z 0)) _ _ (λ _. (omega arith, omega arith)) (λ _.
    either z (slice_index z 0 == 35) _ _ (λ _. is_comment z h) (λ _.
    either z (is_mark z) _ _ (λ e. (omega arith, is_mark_len z e)) (λ _.
    either z (is_punct (slice_index z 0)) _ _ (λ e. is_one z h e) (λ _.
    either z (slice_index z 0 == 46) _ _ (λ e. is_dots z (eqb-true (slice_index z 0) 46 e)) (λ _.
    either z (starts_name (slice_index z 0)) _ _ (λ e. is_name z h e) (λ _.
    either z (slice_index z 0 == 34) _ _ (λ e. is_string z (eqb-true (slice_index z 0) 34 e)) (λ _. is_int z)))))))

-- ---- the lexemes of a text

-- the lexemes from a place on, where so many bytes are left of a front
abbrev AreWell : Text → ℕ → List Token → Type 0
AreWell text at ts = AreSpans text ts × AreInOrder at ts

token_at : (text z : Text) (at n : ℕ) (k : TokenKind) → drop at text ≡ z → at ≤ length text → IsFound z k n → IsSpan text (record { kind = k; start = at; end = at + n })
token_at text z at n k e h f =
    let there : (i : ℕ) → slice_index text (at + i) ≡ slice_index z i = λ i. sym (get_or-drop at text i 0) ∙ ap (λ u. slice_index u i) e in
    let first : slice_index text at ≡ slice_index z 0 = ap (slice_index text) (let k : at ≡ at + 0 = omega arith in k) ∙ there 0 in
    let last : slice_index text (at + n - 1) ≡ slice_index z (n - 1) = ap (slice_index text) (let k : at + n - 1 ≡ at + (n - 1) = omega (arith, f.on) in k) ∙ there (n - 1) in
    record {
      on = omega (arith, f.on);
      within = omega (arith, f.within, length-drop at text, ap length e);
      first = rw first f.first;
      last = rw last f.last;
      quotes = λ q. omega (arith, f.quotes q);
    }

sooner : (a b : ℕ) (ts : List Token) → b ≤ a → AreInOrder a ts → AreInOrder b ts
sooner a b [] h w = tt
sooner a b (t ∷ ts) h w = (omega (arith, w.0), w.1, w.2)

spans_from : (text z : Text) (left at : ℕ) → drop at text ≡ z → left ≤ length z → at ≤ length text → AreWell text (at + left) (lexemes_from left at z).0
spans_from text [] left at e h k = (tt, tt)
spans_from text (b ∷ z) left at e h k0 = go left h (is_front (b ∷ z) (omega arith)) (λ left h. subst (λ u. AreWell text u (lexemes_from left (at + 1) z).0) (let q : at + 1 + left ≡ at + suc left = omega arith in q) (spans_from text z left (at + 1) next h short))
  where
    next : drop (at + 1) text ≡ z
    next = ap (λ k. drop k text) (omega arith) ∙ sym (drop-drop 1 at text) ∙ ap (drop 1) e

    short : at + 1 ≤ length text
    short = omega (arith, length-drop at text, ap length e)

    go : (left : ℕ) → left ≤ suc (length z) → IsFront (b ∷ z) (front (b ∷ z)) → ((left : ℕ) → left ≤ length z → AreWell text (at + suc left) (lexemes_from left (at + 1) z).0) → AreWell text (at + left) (lexemes_from left at (b ∷ z)).0
    go (suc left) h f ih = ih left (omega arith)
    go zero h f ih = by_front (front (b ∷ z)) f
      where
        by_front : (f : Front) → IsFront (b ∷ z) f → AreWell text (at + 0) (with_front f at (λ left. lexemes_from left (at + 1) z)).0
        by_front (Ignored n) f = let q = ih (n - 1) (omega (arith, f.1)) in (q.0, sooner _ _ _ (omega arith) q.1)
        by_front (Found k n) f =
            let q = ih (n - 1) (omega (arith, f.within)) in
            ((token_at text (b ∷ z) at n k e k0 f, q.0), (omega arith, omega (arith, f.on), sooner _ _ _ (omega (arith, f.on)) q.1))
        by_front Bad f = (tt, tt)

pub AreSpans-lexemes : (text : Text) → AreSpans text (lexemes text).0
unfolding lexemes
AreSpans-lexemes text = (spans_from text text 0 0 refl (omega arith) (omega arith)).0

pub AreInOrder-lexemes : (text : Text) → AreInOrder 0 (lexemes text).0
unfolding lexemes
AreInOrder-lexemes text = (spans_from text text 0 0 refl (omega arith) (omega arith)).1
