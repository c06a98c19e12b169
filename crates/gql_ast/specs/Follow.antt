-- What may follow a rule that can go on: no lexeme with which it would (GraphQL October 2021, Appendix B).
use Rattle.std.specs.Prelude.{◌≡◌, List, []}
use Rattle.request_model.specs.Grammar.{Lexeme}
use Rattle.gql_ast.specs.Fronts.{NotAt}

abbrev pub Anything : List Lexeme → Type 0
Anything _ = Unit {0}

abbrev pub AtEnd : List Lexeme → Type 0
AtEnd r = r ≡ []

-- no @ and no (
abbrev pub EndsDirectives : List Lexeme → Type 0
EndsDirectives r = NotAt 64 r × NotAt 40 r

-- no !, =, @ and (
abbrev pub EndsVariable : List Lexeme → Type 0
EndsVariable r = NotAt 33 r × NotAt 61 r × NotAt 64 r × NotAt 40 r

-- no :, (, @ and {
abbrev pub EndsSelection : List Lexeme → Type 0
EndsSelection r = NotAt 58 r × NotAt 40 r × NotAt 64 r × NotAt 123 r
