-- Tokens between which their text may be cut into texts (GraphQL October 2021, section 2.1.6 "Lexical Tokens").
use Rattle.std.specs.Prelude.{◌≡◌, ℕ, ◌+◌, ◌-◌, ◌≤◌, List}
use Rattle.std.specs.List.{AllByRecursion}
use Rattle.std.specs.Str.{IsCharBoundary}
use Rattle.request_model.specs.declared.token.Token.{Token}
use Rattle.request_model.specs.declared.token.TokenKind.TheVariants as kind
use Rattle.request_model.specs.Strings.{Text}

-- two places that hold a text between them
abbrev pub IsCut : Text → ℕ → ℕ → Type 0
IsCut text i j = (i ≤ j) × IsCharBoundary text i × IsCharBoundary text j

-- a token, and what stands between the quotes of a string
abbrev pub IsTokenCut : Text → Token → Type 0
IsTokenCut text t = IsCut text t.start t.end × (t.kind ≡ kind.Text → IsCut text (t.start + 1) (t.end - 1))

abbrev pub AreCuts : Text → List Token → Type 0
AreCuts text ts = AllByRecursion (IsTokenCut text) ts
