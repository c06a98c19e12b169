-- What is read from the front of a TOML text is no longer than the bytes that it takes.
use Rattle.std.proofs.Common.{◌≡◌, ℕ, zero, suc, ◌+◌, ◌≤◌, ◌<◌, Bool, true, false, not, ◌&&◌, ◌||◌, ◌==◌, nat_lt, nat_le, List, [], ◌∷◌, ◌++◌, length, take, drop, Option, Some, None, is_some, unwrap_or, option_and_then, if◌then◌else◌, refl, ap, sym, ◌∙◌, arith}
use Rattle.std.proofs.lemmas.Bool.{eqb-true, and_parts, cond_both}
use Rattle.std.proofs.lemmas.Bool.Decides.{nat_tests}
use Rattle.std.proofs.lemmas.List.{length-append, length-drop}
use Rattle.std.proofs.lemmas.Str.{length-encode, len_utf8_ascii, len_utf8_bounds}
use Rattle.std.specs.Prelude.{slice_index, encode_utf8}
use Rattle.std.specs.Char.{is_digit}
use Rattle.std.specs.List.{prefix_len, list_all}
use Rattle.std.specs.Str.Parse.{digits_value}
use Rattle.toml_parser.specs.Lexical.{dot, line_feed, first, starts_newline, skip_ws, skip_turn, skip_from, skip_blank, skip_lines, is_bare}
use Rattle.toml_parser.specs.Strings.{simple_escape, hex_len, is_scalar, hex_escape, escape_char, escape, is_plain, at_delims, special, prepend, after_piece, body, trim_newline, one_line, quoted, starts_string, simple_key, key_after}
use Rattle.toml_parser.specs.Numbers.{word_len, word_value, unquoted}
use Rattle.metadata_bounds.proofs.Given.{Given, absent, given, given_if, given_map, given_then, given_more}

-- ---- what is left

abbrev pub Left : List ℕ → List ℕ → Type 0
Left text rest = length rest ≤ length text

pub left_same : (text : List ℕ) → Left text text
left_same text = omega arith

pub left_drop : (k : ℕ) (text : List ℕ) → Left text (drop k text)
left_drop k text = let dropped = length-drop k text in omega (arith, dropped)

pub left_on : (text mid rest : List ℕ) → Left text mid → Left mid rest → Left text rest
left_on text mid rest h k = omega (arith, h, k)

pub skip_ws_left : (text : List ℕ) → Left text (skip_ws text)
unfolding skip_ws
skip_ws_left text = left_drop _ text

skip_from_left : (comments inside : Bool) (text : List ℕ) → Left text (skip_from comments inside text)
unfolding skip_from
skip_from_left comments inside [] = left_same []
skip_from_left comments inside (c ∷ cs) =
    cond_both (is_some (skip_turn comments inside c (first cs))) _ _ (Left (c ∷ cs))
    (λ e. let more = skip_from_left comments (unwrap_or (skip_turn comments inside c (first cs)) false) cs in omega (arith, more))
    (λ e. left_same (c ∷ cs))

pub skip_blank_left : (text : List ℕ) → Left text (skip_blank text)
skip_blank_left text = skip_from_left true false text

skip_lines_left : (text : List ℕ) → Left text (skip_lines text)
skip_lines_left text = skip_from_left false false text

-- ---- escapes: a character takes no more bytes than its escape

-- as long as what is read, with what is left, is no longer than the text and so many bytes before it
abbrev Within : ℕ → List ℕ → List ℕ × List ℕ → Type 0
Within before text r = length r.0 + length r.1 ≤ before + length text

utf8_most : (c : ℕ) → length (encode_utf8 c) ≤ 4
utf8_most c = let is = length-encode c in let most = (len_utf8_bounds c).1 in omega (arith, is, most)

at_most : (n m : ℕ) → nat_le n m ≡ true → n ≤ m
at_most n m h = grind (arith, nat_tests)

more_than : (n m : ℕ) → nat_lt n m ≡ true → n < m
more_than n m h = grind (arith, nat_tests)

hex_within : (n : ℕ) (text : List ℕ) → 2 ≤ n → Given (λ r. length (encode_utf8 r.0) + length r.1 ≤ 2 + length text) (hex_escape n text)
unfolding hex_escape
hex_within n text h =
    let digits = take n text in
    given_if ((nat_le n (length text) && list_all (λ c. is_digit c 16) digits) && is_scalar (digits_value 16 digits)) (Some (digits_value 16 digits, drop n text)) None
    (λ e.
    let there = at_most n (length text) (and_parts (nat_le n (length text)) _ (and_parts (nat_le n (length text) && list_all (λ c. is_digit c 16) digits) _ e).0).0 in
    let most = utf8_most (digits_value 16 digits) in
    let dropped = length-drop n text in
    given (omega (arith, h, there, most, dropped)))
    (λ e. absent)

two_or_none : (c : ℕ) → 0 < hex_len c → 2 ≤ hex_len c
two_or_none c h = go (c == 120) (c == 117) (c == 85) h
  where
    go : (x u v : Bool) → 0 < (if x then 2 else if u then 4 else if v then 8 else 0) → 2 ≤ (if x then 2 else if u then 4 else if v then 8 else 0)
    go true u v k = omega arith
    go false true v k = omega arith
    go false false true k = omega arith
    go false false false k = absurd (omega (arith, k))

ascii : (c : ℕ) → c < 128 → length (encode_utf8 c) ≡ 1
ascii c h = length-encode c ∙ len_utf8_ascii c h

simple_one : (c : ℕ) → Given (λ d. length (encode_utf8 d) ≡ 1) (simple_escape c)
simple_one c =
    given_if (c == 98) _ _ (λ e. given (ascii 8 (omega arith))) (λ e. given_if (c == 101) _ _ (λ e. given (ascii 27 (omega arith))) (λ e. given_if (c == 102) _ _ (λ e. given (ascii 12 (omega arith)))
    (λ e. given_if (c == 110) _ _ (λ e. given (ascii 10 (omega arith))) (λ e. given_if (c == 114) _ _ (λ e. given (ascii 13 (omega arith))) (λ e. given_if (c == 116) _ _ (λ e. given (ascii 9 (omega arith)))
    (λ e. given_if (c == 34 || c == 92) _ _ (λ e. given (itself (c == 34) (c == 92) refl refl e)) (λ e. absent)))))))
  where
    itself : (a b : Bool) → (c == 34) ≡ a → (c == 92) ≡ b → (a || b) ≡ true → length (encode_utf8 c) ≡ 1
    itself true b p q e = let is = eqb-true c 34 p in ascii c (omega (arith, is))
    itself false true p q e = let is = eqb-true c 92 q in ascii c (omega (arith, is))
    itself false false p q e = absurd (let d : false ≡ true = e in cc)

char_within : (text : List ℕ) → Given (λ r. length (encode_utf8 r.0) + length r.1 ≤ 1 + length text) (escape_char text)
unfolding escape_char
char_within [] = absent
char_within (c ∷ cs) =
    given_if (nat_lt 0 (hex_len c)) _ _
    (λ e. given_more (λ r. length (encode_utf8 r.0) + length r.1 ≤ 2 + length cs) (hex_escape (hex_len c) cs) (hex_within (hex_len c) cs (two_or_none c (more_than 0 (hex_len c) e))) (λ r h. omega (arith, h)))
    (λ e. given_map (λ d. length (encode_utf8 d) ≡ 1) _ (simple_escape c) (simple_one c) (λ d h. omega (arith, h)))

escape_within : (multi : Bool) (text : List ℕ) → Given (Within 1 text) (escape multi text)
unfolding escape
escape_within multi text =
    given_if (multi && starts_newline (skip_ws text)) _ _
    (λ e. let left = skip_lines_left text in given (omega (arith, left)))
    (λ e. given_map (λ r. length (encode_utf8 r.0) + length r.1 ≤ 1 + length text) _ (escape_char text) (char_within text) (λ r h. h))

-- ---- strings

abbrev piece_len : Option (List ℕ) → ℕ
piece_len (Some bytes) = length bytes
piece_len None = 0

abbrev PieceWithin : List ℕ → Option (List ℕ) × List ℕ → Type 0
PieceWithin text r = piece_len r.0 + length r.1 ≤ length text

no_plain : (delim : ℕ) (multi : Bool) → is_plain delim multi 0 ≡ false
no_plain delim multi = go (0 == delim) (delim == 34) multi
  where
    go : (a b m : Bool) → ((not a && not (false && b)) && (false || (m && false))) ≡ false
    go true b m = refl
    go false b true = refl
    go false b false = refl

no_quote : (delim : ℕ) → (0 == delim) ≡ false → (0 == delim) ≡ true → ⊥
no_quote delim h k = let e : false ≡ true = sym h ∙ k in cc

delims_within : (delim c : ℕ) (cs : List ℕ) → Given (PieceWithin (c ∷ cs)) (at_delims delim (c ∷ cs))
delims_within delim c cs =
    given_if (prefix_len (λ b. b == delim) (c ∷ cs) == 3) _ _
    (λ e. let left = left_drop 2 cs in given (omega (arith, left)))
    (λ e. given_if (nat_lt (prefix_len (λ b. b == delim) (c ∷ cs)) 6) _ _ (λ e. given (omega arith)) (λ e. absent))

special_within : (delim : ℕ) (multi : Bool) (text : List ℕ) → (0 == delim) ≡ false → Given (PieceWithin text) (special delim multi text)
unfolding special
special_within delim multi [] h =
    given_if (0 == delim) _ _ (λ e. absurd (no_quote delim h e)) (λ e. empty multi)
  where
    empty : (m : Bool) → Given (PieceWithin []) (if m && false then Some (Some (0 ∷ []), []) else None)
    empty true = absent
    empty false = absent
special_within delim multi (c ∷ cs) h =
    given_if (c == delim) _ _
    (λ e. given_if multi _ _ (λ m. delims_within delim c cs) (λ m. given (omega arith)))
    (λ e. given_if (c == 92) _ _
    (λ b. given_map (Within 1 cs) _ (escape multi cs) (escape_within multi cs) (λ r k. omega (arith, k)))
    (λ b. given_if (multi && starts_newline (c ∷ cs)) _ _ (λ n. given (omega arith)) (λ n. absent)))

body_within : (delim : ℕ) (multi : Bool) (n : ℕ) (text : List ℕ) → (0 == delim) ≡ false → Given (Within 0 text) (body delim multi n text)
unfolding body
body_within delim multi zero text h = absent
body_within delim multi (suc n) text h = go text (λ rest. body_within delim multi n rest h)
  where
    pieces : (text : List ℕ) → ((rest : List ℕ) → Given (Within 0 rest) (body delim multi n rest)) →
        Given (Within 0 text) (option_and_then (λ p. after_piece (body delim multi n) p.0 p.1) (special delim multi text))
    pieces text more = given_then (PieceWithin text) (λ p. after_piece (body delim multi n) p.0 p.1) (special delim multi text) (special_within delim multi text h) (λ p k. one p.0 p.1 k)
      where
        one : (o : Option (List ℕ)) (rest : List ℕ) → piece_len o + length rest ≤ length text → Given (Within 0 text) (after_piece (body delim multi n) o rest)
        one None rest k = given (omega (arith, k))
        one (Some bytes) rest k =
            given_map (Within 0 rest) (λ r. (bytes ++ r.0, r.1)) (body delim multi n rest) (more rest) (λ r g. let joined = length-append bytes r.0 in omega (arith, k, g, joined))

    go : (text : List ℕ) → ((rest : List ℕ) → Given (Within 0 rest) (body delim multi n rest)) → Given (Within 0 text)
        (if is_plain delim multi (first text) then prepend (first text ∷ []) (body delim multi n (drop 1 text)) else option_and_then (λ p. after_piece (body delim multi n) p.0 p.1) (special delim multi text))
    go [] more = given_if (is_plain delim multi 0) _ _ (λ e. absurd (let d : false ≡ true = sym (no_plain delim multi) ∙ e in cc)) (λ e. pieces [] more)
    go (c ∷ cs) more =
        given_if (is_plain delim multi c) _ _
        (λ e. given_map (Within 0 cs) (λ r. ((c ∷ []) ++ r.0, r.1)) (body delim multi n cs) (more cs) (λ r k. omega (arith, k)))
        (λ e. pieces (c ∷ cs) more)

trim_left : (text : List ℕ) → Left text (trim_newline text)
trim_left text = cond_both (first text == line_feed) _ _ (Left text) (λ e. left_drop 1 text) (λ e. cond_both (starts_newline text) _ _ (Left text) (λ e. left_drop 2 text) (λ e. left_same text))

-- a delimiter is there
some_quote : (c : ℕ) → (c == 34 || c == 39) ≡ true → (0 == c) ≡ false
some_quote c h = go (c == 34) (c == 39) refl refl h
  where
    go : (a b : Bool) → (c == 34) ≡ a → (c == 39) ≡ b → (a || b) ≡ true → (0 == c) ≡ false
    go true b p q k = ap (λ d. 0 == d) (eqb-true c 34 p)
    go false true p q k = ap (λ d. 0 == d) (eqb-true c 39 q)
    go false false p q k = absurd (let d : false ≡ true = k in cc)

one_line_within : (text : List ℕ) → starts_string text ≡ true → Given (Within 0 text) (one_line text)
unfolding one_line
one_line_within text h =
    given_more (Within 0 (drop 1 text)) (body (first text) false (length text) (drop 1 text)) (body_within (first text) false (length text) (drop 1 text) (some_quote (first text) h))
    (λ r k. let left = left_drop 1 text in omega (arith, k, left))

pub quoted_within : (text : List ℕ) → starts_string text ≡ true → Given (λ r. length r.0 + length r.1 ≤ length text) (quoted text)
unfolding quoted
quoted_within text h =
    given_if (slice_index text 1 == first text && slice_index text 2 == first text) _ _
    (λ e. given_more (Within 0 (trim_newline (drop 3 text))) (body (first text) true (length text) (trim_newline (drop 3 text))) (body_within (first text) true (length text) (trim_newline (drop 3 text)) (some_quote (first text) h))
    (λ r k. let left = left_drop 3 text in let trimmed = trim_left (drop 3 text) in omega (arith, k, left, trimmed)))
    (λ e. given_more (Within 0 text) (one_line text) (one_line_within text h) (λ r k. omega (arith, k)))

-- ---- keys and scalars: what is left

abbrev pub LeftOf : {A : Type 0} → List ℕ → A × List ℕ → Type 0
LeftOf text r = Left text r.1

simple_key_left : (text : List ℕ) → Given (LeftOf text) (simple_key text)
unfolding simple_key
simple_key_left text =
    given_if (starts_string text) _ _
    (λ e. given_more (Within 0 text) (one_line text) (one_line_within text e) (λ r k. omega (arith, k)))
    (λ e. given_if (is_bare (first text)) _ _ (λ b. given (left_drop (prefix_len is_bare text) text)) (λ b. absent))

pub key_left : (n : ℕ) (path : List (List ℕ)) (text : List ℕ) → Given (LeftOf text) (key_after n path text)
unfolding key_after
key_left zero path text = absent
key_left (suc n) path text =
    given_then (LeftOf text) _ (simple_key text) (simple_key_left text)
    (λ part h.
    let rest = skip_ws part.1 in
    let spaced = skip_ws_left part.1 in
    given_if (first rest == dot) _ _
    (λ e.
    let dropped = left_drop 1 rest in
    let again = skip_ws_left (drop 1 rest) in
    given_more (LeftOf (skip_ws (drop 1 rest))) (key_after n (path ++ part.0 ∷ []) (skip_ws (drop 1 rest))) (key_left n (path ++ part.0 ∷ []) (skip_ws (drop 1 rest))) (λ r k. omega (arith, h, spaced, dropped, again, k)))
    (λ e. given (omega (arith, h, spaced))))

pub unquoted_left : (text : List ℕ) → Given (LeftOf text) (unquoted text)
unfolding unquoted
unquoted_left text =
    given_if (word_len text == 0) _ _ (λ e. absent)
    (λ e. given_map (λ d. Unit {0}) _ (word_value (take (word_len text) text)) (any (word_value (take (word_len text) text))) (λ d h. left_drop (word_len text) text))
  where
    any : {A : Type 0} (o : Option A) → Given (λ x. Unit {0}) o
    any None = absent
    any (Some x) = given tt
