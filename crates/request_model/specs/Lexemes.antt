-- The lexemes of a text and its first bad one: GraphQL October 2021, section 2.1 "Source Text" and Appendix A,
-- without floats and block strings.
use Rattle.std.specs.Prelude.{
  ℕ,
  zero,
  suc,
  ◌+◌,
  ◌-◌,
  not,
  Bool,
  ◌&&◌,
  ◌||◌,
  if◌then◌else◌,
  ◌==◌,
  List,
  [],
  ◌∷◌,
  ◌++◌,
  drop,
  slice_index,
  Option,
  Some,
  None,
}
use Rattle.std.specs.Char.{is_ascii_digit, is_ascii_alphabetic, is_ascii_alphanumeric}
use Rattle.std.specs.List.{prefix_len}
use Rattle.request_model.specs.declared.token.Token.{Token}
use Rattle.request_model.specs.declared.token.TokenKind.{TokenKind}
use Rattle.request_model.specs.declared.token.TokenKind.TheVariants as kind
use Rattle.request_model.specs.Strings.{Text, closed_from}

-- what a text begins with: so many bytes that are ignored, a lexeme of so many bytes, or neither
pub data Front : Type 0 where
  Ignored : ℕ → Front
  Found : TokenKind → ℕ → Front
  Bad : Front

-- ---- what is ignored (sections 2.1.2 to 2.1.5 and 2.1.7)

-- tab, line feed, carriage return, space and comma
abbrev pub is_blank : ℕ → Bool
is_blank b = b == 9 || b == 10 || b == 13 || b == 32 || b == 44

-- a comment goes on up to the line's end
abbrev pub is_in_line : ℕ → Bool
is_in_line b = not (b == 10 || b == 13)

-- the byte order mark, U+FEFF
abbrev pub is_mark : Text → Bool
is_mark z = slice_index z 0 == 239 && slice_index z 1 == 187 && slice_index z 2 == 191

-- ---- punctuators (section 2.1.8): ! $ & ( ) : = @ [ ] { | } and the three dots

abbrev pub is_punct : ℕ → Bool
is_punct b = b == 33 || b == 36 || b == 38 || b == 40 || b == 41 || b == 58 || b == 61 || b == 64 || b == 91 || b == 93
    || b == 123 || b == 124 || b == 125

abbrev pub dots : Text → Front
dots z = if slice_index z 1 == 46 && slice_index z 2 == 46 then Found kind.Spread 3 else Bad

-- ---- names (section 2.1.9): as many letters, digits and _ as there are

abbrev pub starts_name : ℕ → Bool
starts_name b = is_ascii_alphabetic b || b == 95

abbrev pub is_in_name : ℕ → Bool
is_in_name b = is_ascii_alphanumeric b || b == 95

-- ---- integers (section 2.9.1)

-- the length of 0, or of digits that don't begin with 0, or 0 where none is there
abbrev pub digits_len : Text → ℕ
digits_len z = if slice_index z 0 == 48 then 1 else prefix_len is_ascii_digit z

abbrev pub int_len : Text → ℕ
int_len z =
    if slice_index z 0 == 45 then (if digits_len (drop 1 z) == 0 then 0 else digits_len (drop 1 z) + 1)
    else digits_len z

-- no digit, letter, _ or point may follow
abbrev pub int : Text → Front
int z =
    let next = slice_index z (int_len z) in
    if int_len z == 0 || is_in_name next || next == 46 then Bad else Found kind.Int (int_len z)

-- ---- strings (section 2.9.4), from the opening quote on: on one line, and no block string

abbrev pub closed : Option ℕ → Front
closed None = Bad
closed (Some n) = Found kind.Text (n + 1)

abbrev pub string : Text → Front
string z = if slice_index z 1 == 34 && slice_index z 2 == 34 then Bad else closed (closed_from 0 (drop 1 z))

-- ---- the front of a text that isn't empty

unfoldable pub front : Text → Front
front z =
    let b = slice_index z 0 in
    if is_blank b then Ignored 1
    else (if b == 35 then Ignored (1 + prefix_len is_in_line (drop 1 z))
    else (if is_mark z then Ignored 3
    else (if is_punct b then Found (kind.Punct b) 1
    else (if b == 46 then dots z
    else (if starts_name b then Found kind.Name (prefix_len is_in_name z)
    else (if b == 34 then string z
    else int z))))))

-- ---- the lexemes of a text, with their places, and the place of the first bad one

abbrev pub Run : Type 0
Run = List Token × Option ℕ

abbrev pub before : List Token → Run → Run
before ts r = (ts ++ r.0, r.1)

-- the lexemes from a front on; `go` answers those that come after it, given the bytes that are left of it
abbrev pub with_front : Front → ℕ → (ℕ → Run) → Run
with_front (Ignored n) at go = go (n - 1)
with_front (Found k n) at go = before (record { kind = k; start = at; end = at + n } ∷ []) (go (n - 1))
with_front Bad at go = ([], Some at)

-- the lexemes of a text that begins at a place; the first number counts the bytes that are left of a front
abbrev pub lexemes_from : ℕ → ℕ → Text → Run
lexemes_from left at [] = ([], None)
lexemes_from (suc left) at (b ∷ z) = lexemes_from left (at + 1) z
lexemes_from zero at (b ∷ z) = with_front (front (b ∷ z)) at (λ left. lexemes_from left (at + 1) z)

unfoldable pub lexemes : Text → Run
lexemes z = lexemes_from 0 0 z
