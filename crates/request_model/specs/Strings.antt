-- The characters between the quotes of a string: GraphQL October 2021, section 2.9.4 "String Value", without block
-- strings.
use Rattle.std.specs.Prelude.{
  ℕ,
  zero,
  suc,
  ◌+◌,
  ◌-◌,
  ◌*◌,
  Bool,
  not,
  ◌&&◌,
  ◌||◌,
  if◌then◌else◌,
  ◌==◌,
  nat_le,
  List,
  [],
  ◌∷◌,
  ◌++◌,
  drop,
  slice_index,
  encode_utf8,
  Option,
  Some,
  None,
  option_and_then,
}
use Rattle.std.specs.Char.{is_ascii_hexdigit, digit_value}
use Rattle.std.specs.Option.{option_map}

-- a text is the list of its bytes in UTF-8; a byte past the end reads as 0, which is no character of a lexeme
abbrev pub Text : Type 0
Text = List ℕ

-- what stands for itself: no quote, no backslash and no control character but tab
abbrev pub is_plain : ℕ → Bool
is_plain b = not (b == 34 || b == 92) && (nat_le 32 b || b == 9)

-- EscapedCharacter: the character for which a letter behind a backslash stands; they are " \ / b f n r t
abbrev pub escaped : ℕ → Option ℕ
escaped e =
    if e == 34 || e == 92 || e == 47 then Some e
    else (if e == 98 then Some 8
    else (if e == 102 then Some 12
    else (if e == 110 then Some 10
    else (if e == 114 then Some 13
    else (if e == 116 then Some 9
    else None)))))

-- the number of four hexadecimal digits
abbrev pub hex : Text → Option ℕ
hex (p ∷ q ∷ r ∷ s ∷ z) =
    if is_ascii_hexdigit p && is_ascii_hexdigit q && is_ascii_hexdigit r && is_ascii_hexdigit s
    then Some (4096 * digit_value p + 256 * digit_value q + 16 * digit_value r + digit_value s) else None
hex _ = None

-- the number of a \u escape, if one stands at the front
abbrev pub unit : Text → Option ℕ
unit z = if slice_index z 0 == 92 && slice_index z 1 == 117 then hex (drop 2 z) else None

abbrev pub is_high : ℕ → Bool
is_high u = nat_le 0xD800 u && nat_le u 0xDBFF

abbrev pub is_low : ℕ → Bool
is_low u = nat_le 0xDC00 u && nat_le u 0xDFFF

-- The character of a \u escape and its length: two escapes that are a surrogate pair are one character, and a
-- surrogate alone is none.
abbrev pub from_units : ℕ → Option ℕ → Option (ℕ × ℕ)
from_units u None = if is_high u || is_low u then None else Some (u, 6)
from_units u (Some v) =
    if is_high u && is_low v then Some (0x10000 + (u - 0xD800) * 0x400 + (v - 0xDC00), 12)
    else (if is_high u || is_low u then None else Some (u, 6))

-- the character of the escape at the front, which is a backslash, and the escape's length
abbrev pub escape : Text → Option (ℕ × ℕ)
escape z =
    if slice_index z 1 == 117 then option_and_then (λ u. from_units u (unit (drop 6 z))) (unit z)
    else option_map (λ c. (c, 2)) (escaped (slice_index z 1))

-- StringCharacter: the text for which the character at the front stands, and the length in which it is written. A
-- plain character outside ASCII comes byte by byte.
abbrev pub character : Text → Option (Text × ℕ)
character z =
    if is_plain (slice_index z 0) then Some (slice_index z 0 ∷ [], 1)
    else (if slice_index z 0 == 92 then option_map (λ c. (encode_utf8 c.0, c.1)) (escape z) else None)

-- The length of the characters up to the closing quote, and of the quote. The number counts the bytes that are left of
-- a character.
abbrev pub closed_after : Option (Text × ℕ) → (ℕ → Option ℕ) → Option ℕ
closed_after None go = None
closed_after (Some c) go = option_map (λ n. n + 1) (go (c.1 - 1))

abbrev pub closed_from : ℕ → Text → Option ℕ
closed_from left [] = None
closed_from (suc left) (b ∷ z) = option_map (λ n. n + 1) (closed_from left z)
closed_from zero (b ∷ z) = if b == 34 then Some 1 else closed_after (character (b ∷ z)) (λ left. closed_from left z)

-- The text for which the characters stand.
abbrev pub unescaped_after : Option (Text × ℕ) → (ℕ → Text) → Text
unescaped_after None go = []
unescaped_after (Some c) go = c.0 ++ go (c.1 - 1)

abbrev pub unescaped_from : ℕ → Text → Text
unescaped_from left [] = []
unescaped_from (suc left) (b ∷ z) = unescaped_from left z
unescaped_from zero (b ∷ z) = unescaped_after (character (b ∷ z)) (λ left. unescaped_from left z)

unfoldable pub unescaped : Text → Text
unescaped z = unescaped_from 0 z
