-- What a text says, and the place of its first fault: GraphQL October 2021, section 2.2 "Document". The limits on
-- length and nesting and the place of a fault are this project's own.
use Rattle.std.specs.Prelude.{
  ◌≡◌,
  ℕ,
  ◌+◌,
  ◌-◌,
  ◌<◌,
  ◌≤◌,
  Bool,
  false,
  ◌&&◌,
  ◌||◌,
  if◌then◌else◌,
  ◌==◌,
  nat_le,
  List,
  [],
  ◌∷◌,
  ◌++◌,
  length,
  slice_range,
  map,
  Some,
  None,
}
use Rattle.request_model.specs.declared.token.Token.{Token}
use Rattle.request_model.specs.declared.token.TokenKind.{TokenKind}
use Rattle.request_model.specs.declared.token.TokenKind.TheVariants as kind
use Rattle.request_model.specs.declared.document.Document.{Document}
use Rattle.request_model.specs.Strings.{Text}
use Rattle.request_model.specs.Lexemes.{lexemes}
use Rattle.request_model.specs.Grammar.{Lexeme, Punct, Spread, Name, Int, Quoted, IsDocument}

-- ---- tokens as lexemes

abbrev pub lexeme : Text → Token → Lexeme
lexeme text t = of_kind t.kind
  where
    of_kind : TokenKind → Lexeme
    of_kind (kind.Punct b) = Punct b
    of_kind kind.Spread = Spread
    of_kind kind.Name = Name (slice_range text t.start t.end)
    of_kind kind.Int = Int (slice_range text t.start t.end)
    of_kind kind.Text = Quoted (slice_range text (t.start + 1) (t.end - 1))

abbrev pub lexemes_of : Text → List Token → List Lexeme
lexemes_of text ts = map (lexeme text) ts

-- ---- brackets of all kinds nest at most 64 deep

abbrev pub opens : Lexeme → Bool
opens (Punct b) = b == 40 || b == 91 || b == 123
opens _ = false

abbrev pub closes : Lexeme → Bool
closes (Punct b) = b == 41 || b == 93 || b == 125
closes _ = false

-- how many brackets are open after the lexeme, where `level` were before it
abbrev pub level_after : ℕ → Lexeme → ℕ
level_after level t = if opens t then level + 1 else (if closes t then level - 1 else level)

abbrev pub opens_65th : ℕ → Lexeme → Bool
opens_65th level t = opens t && nat_le 64 level

-- no bracket opens a 65th level
abbrev pub IsShallow : ℕ → List Lexeme → Type 0
IsShallow level [] = Unit {0}
IsShallow level (t ∷ ts) = (opens_65th level t ≡ false) × IsShallow (level_after level t) ts

-- ---- what a text says

-- the lexemes are this document
abbrev pub Derives : List Lexeme → Document → Type 0
Derives ts d = IsDocument ts d [] × IsShallow 0 ts

abbrev pub length_limit : ℕ
length_limit = 65536

-- the text is this document
pub record Reads (text : Text) (d : Document) : Type 0 where
  pub fits : length text ≤ length_limit
  pub good : (lexemes text).1 ≡ None
  pub derives : Derives (lexemes_of text (lexemes text).0) d

-- ---- the first fault

-- the lexemes begin some document, and none of them opens a 65th level
abbrev pub Begins : List Lexeme → Type 0
Begins ts = IsShallow 0 ts × ((more : List Lexeme) × (d : Document) × IsDocument (ts ++ more) d [])

pub data FaultAt (text : Text) : ℕ → Type 0 where
  -- the text is too long, whatever it says
  too_long : length_limit < length text → FaultAt text length_limit
  -- the lexemes before this one begin a document, and with it they don't
  at_lexeme : length text ≤ length_limit → (before : List Token) (t : Token) (after : List Token) →
      (lexemes text).0 ≡ before ++ t ∷ after →
      Begins (lexemes_of text before) → (Begins (lexemes_of text (before ++ t ∷ [])) → ⊥) → FaultAt text t.start
  -- all lexemes begin a document, and then comes a bad one
  at_bad : length text ≤ length_limit → (at : ℕ) → (lexemes text).1 ≡ Some at →
      Begins (lexemes_of text (lexemes text).0) → FaultAt text at
  -- all lexemes begin a document, and they are none
  at_end : length text ≤ length_limit → (lexemes text).1 ≡ None → Begins (lexemes_of text (lexemes text).0) →
      ((d : Document) → Derives (lexemes_of text (lexemes text).0) d → ⊥) → FaultAt text (length text)
