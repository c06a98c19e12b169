-- What a list of lexemes begins with (GraphQL October 2021, section 2.1.6 "Lexical Tokens").
use Rattle.std.specs.Prelude.{◌≡◌, ℕ, List, ◌∷◌}
use Rattle.request_model.specs.Strings.{Text}
use Rattle.request_model.specs.Grammar.{Lexeme, Punct, Spread, Name, Int, Quoted}

abbrev pub IsAt : ℕ → List Lexeme → Type 0
IsAt b ts = (more : List Lexeme) × (ts ≡ Punct b ∷ more)

abbrev pub NotAt : ℕ → List Lexeme → Type 0
NotAt b ts = (more : List Lexeme) → ts ≡ Punct b ∷ more → ⊥

abbrev pub NotSpread : List Lexeme → Type 0
NotSpread ts = (more : List Lexeme) → ts ≡ Spread ∷ more → ⊥

abbrev pub NotWord : Text → List Lexeme → Type 0
NotWord w ts = (more : List Lexeme) → ts ≡ Name w ∷ more → ⊥

abbrev pub NotName : List Lexeme → Type 0
NotName ts = (n : Text) (more : List Lexeme) → ts ≡ Name n ∷ more → ⊥

abbrev pub NotInt : List Lexeme → Type 0
NotInt ts = (n : Text) (more : List Lexeme) → ts ≡ Int n ∷ more → ⊥

abbrev pub NotQuoted : List Lexeme → Type 0
NotQuoted ts = (n : Text) (more : List Lexeme) → ts ≡ Quoted n ∷ more → ⊥
