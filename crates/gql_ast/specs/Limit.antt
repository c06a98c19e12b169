-- Where the nesting of brackets goes past its limit, and what parsing gives; both limits are this project's own.
use Rattle.std.specs.Prelude.{
  ◌≡◌,
  ℕ,
  suc,
  if◌then◌else◌,
  nat_lt,
  List,
  [],
  ◌∷◌,
  length,
  slice_index,
  unwrap_or,
  Option,
  Result,
  Err,
  IfOk,
  MatchResult,
}
use Rattle.request_model.specs.declared.document.Document.{Document}
use Rattle.request_model.specs.Strings.{Text}
use Rattle.request_model.specs.Grammar.{Lexeme}
use Rattle.request_model.specs.Place.{opens_65th, level_after, Reads, FaultAt}
use Rattle.gql_ast.specs.declared.whole.ParseFault.{ParseFault}
use Rattle.gql_ast.specs.declared.whole.ParseFault.TheVariants.{Syntax, NoMemory}

-- the number of lexemes before the first bracket that opens a 65th level
abbrev pub deep_from : ℕ → List Lexeme → ℕ
deep_from level [] = 0
deep_from level (t ∷ ts) = if opens_65th level t then 0 else suc (deep_from (level_after level t) ts)

-- where the fault is, if all of the first n lexemes are well
abbrev pub place_of : List ℕ → ℕ → Option ℕ → ℕ → ℕ
place_of starts n bad end = if nat_lt n (length starts) then slice_index starts n else unwrap_or bad end

-- what parsing a text gives
pub record Parses (text : Text) (result : Result Document ParseFault) : Type 0 where
  -- what is read is what the text says
  pub derived : IfOk result (λ d. Reads text d)
  -- what the text says is read, unless memory runs out
  pub only : (d : Document) → Reads text d → MatchResult result (λ x. x ≡ d) (λ e. e ≡ NoMemory)
  -- a fault is the first one
  pub first : (at : ℕ) → result ≡ Err (Syntax at) → FaultAt text at
