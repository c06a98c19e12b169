-- What the front of a text is, as the definitions of lexemes say it (GraphQL October 2021, section 2.1).
use Rattle.std.specs.Prelude.{ℕ, ◌≤◌}
use Rattle.gql_lex.specs.declared.front.Front.{Front}
use Rattle.gql_lex.specs.declared.front.Front.TheVariants as f
use Rattle.request_model.specs.Lexemes as spec

abbrev pub meaning : Front → spec.Front
meaning (f.Ignored n) = spec.Ignored n
meaning (f.Found k n) = spec.Found k n
meaning f.Bad = spec.Bad

-- it takes bytes, and no more than there are
abbrev pub IsWithin : ℕ → Front → Type 0
IsWithin len (f.Ignored n) = (1 ≤ n) × (n ≤ len)
IsWithin len (f.Found k n) = (1 ≤ n) × (n ≤ len)
IsWithin len f.Bad = Unit {0}
