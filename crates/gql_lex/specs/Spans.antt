-- Where lexemes stand in their text (GraphQL October 2021, section 2.1.6 "Lexical Tokens").
use Rattle.std.specs.Prelude.{◌≡◌, ℕ, ◌+◌, ◌-◌, ◌<◌, ◌≤◌, List, [], ◌∷◌, slice_index, length}
use Rattle.std.specs.List.{AllByRecursion}
use Rattle.request_model.specs.declared.token.Token.{Token}
use Rattle.request_model.specs.declared.token.TokenKind.TheVariants as kind
use Rattle.request_model.specs.Strings.{Text}

-- a lexeme has bytes of the text, of which the first and the last are ASCII, and a string has its two quotes
pub record IsSpan (text : Text) (t : Token) : Type 0 where
  pub on : t.start < t.end
  pub within : t.end ≤ length text
  pub first : slice_index text t.start < 128
  pub last : slice_index text (t.end - 1) < 128
  pub quotes : t.kind ≡ kind.Text → t.start + 2 ≤ t.end

abbrev pub AreSpans : Text → List Token → Type 0
AreSpans text ts = AllByRecursion (IsSpan text) ts

-- the spans come in order, from a place on
abbrev pub AreInOrder : ℕ → List Token → Type 0
AreInOrder at [] = Unit {0}
AreInOrder at (t ∷ ts) = (at ≤ t.start) × (t.start < t.end) × AreInOrder t.end ts
