-- Worked examples, computed from the definitions.
use Rattle.std.proofs.Common.{◌≡◌, ◌≢◌, ◌⊎◌, inl, inr, subst, ℕ, ◌++◌, List, [], ◌∷◌, Some, None, true, false, refl, arith}
use Rattle.std.specs.Prelude.{codes}
use lib.Utf8.{encode}
use Rattle.request_model.specs.declared.token.Token.{Token}
use Rattle.request_model.specs.declared.token.TokenKind.{TokenKind}
use Rattle.request_model.specs.declared.token.TokenKind.TheVariants as kind
use Rattle.request_model.specs.declared.document.GValue.{GValue}
use Rattle.request_model.specs.declared.document.GValue.TheVariants as v
use Rattle.request_model.specs.declared.document.GPair.{GPair, roll-GPair}
use Rattle.request_model.specs.declared.document.Selection.{Selection}
use Rattle.request_model.specs.declared.document.Selection.TheVariants as s
use Rattle.request_model.specs.declared.document.OpWord.TheVariants as word
use Rattle.request_model.specs.declared.document.Definition.{Definition}
use Rattle.request_model.specs.declared.document.Definition.TheVariants as d
use Rattle.request_model.specs.declared.document.Document.{Document}
use Rattle.request_model.specs.Strings.{Text, unescaped}
use Rattle.request_model.specs.Lexemes.{lexemes, front}
use Rattle.request_model.specs.Grammar.{Lexeme, Spread, Name, Int, Quoted, dollar, paren, end_paren, colon, bracket, end_bracket, brace, end_brace, no_more, IsValue, variable, integer, string, null, list, no_values, more_values, a_pair, no_pairs, no_arguments, some_arguments, plain, IsSelection, IsSet, field, spread, no_selections, more_selections, a_set, no_set, some_set, one_more, IsSelections, operation, subscription, no_name, no_variables, IsDefinition, shorthand, IsDocument, a_document}
use Rattle.request_model.specs.Place.{opens_65th, Begins, FaultAt, at_lexeme, at_bad, at_end}

abbrev token : TokenKind → ℕ → ℕ → Token
token k i j = record { kind = k; start = i; end = j }

-- ---- lexemes

-- { a } and a comment
set_lexemes : lexemes (codes "{ a } # b") ≡ (token (kind.Punct 123) 0 1 ∷ token kind.Name 2 3 ∷ token (kind.Punct 125) 4 5 ∷ [], None)
unfolding lexemes front
set_lexemes = refl

subscription_lexemes : lexemes (codes "subscription { user { id } ") ≡
    (token kind.Name 0 12 ∷ token (kind.Punct 123) 13 14 ∷ token kind.Name 15 19 ∷ token (kind.Punct 123) 20 21 ∷ token kind.Name 22 24 ∷ token (kind.Punct 125) 25 26 ∷ [], None)
unfolding lexemes front
subscription_lexemes = refl

-- an integer may not begin with 0, nor be followed by a letter; what stands before it is kept
zero_first : lexemes (codes "a 01") ≡ (token kind.Name 0 1 ∷ [], Some 2)
unfolding lexemes front
zero_first = refl

letter_after : lexemes (codes "-1x") ≡ ([], Some 0)
unfolding lexemes front
letter_after = refl

longest : lexemes (codes "-10...a_1") ≡ ([], Some 0)
unfolding lexemes front
longest = refl

minus_zero : lexemes (codes "-0,a_1...") ≡ (token kind.Int 0 2 ∷ token kind.Name 3 6 ∷ token kind.Spread 6 9 ∷ [], None)
unfolding lexemes front
minus_zero = refl

-- the empty string, and three quotes
no_characters : lexemes (34 ∷ 34 ∷ 32 ∷ 34 ∷ []) ≡ (token kind.Text 0 2 ∷ [], Some 3)
unfolding lexemes front
no_characters = refl

three_quotes : lexemes (34 ∷ 34 ∷ 34 ∷ []) ≡ ([], Some 0)
unfolding lexemes front
three_quotes = refl

-- a lone surrogate is bad, a pair is not
lone : lexemes (34 ∷ codes "\\ud83d" ++ 34 ∷ []) ≡ ([], Some 0)
unfolding lexemes front
lone = refl

paired : lexemes (34 ∷ codes "\\ud83d\\ude00" ++ 34 ∷ []) ≡ (token kind.Text 0 14 ∷ [], None)
unfolding lexemes front
paired = refl

-- U+1F600 in UTF-8
emoji : unescaped (codes "a\\ud83d\\ude00\\n") ≡ 97 ∷ 240 ∷ 159 ∷ 152 ∷ 128 ∷ 10 ∷ []
unfolding unescaped encode
emoji = refl

-- ---- the grammar

-- { a(b: [1, $c]) ...F }
written : List Lexeme
written =
    brace ∷ Name (codes "a") ∷ paren ∷ Name (codes "b") ∷ colon ∷ bracket ∷ Int (codes "1") ∷ dollar ∷ Name (codes "c") ∷ end_bracket ∷ end_paren ∷ Spread ∷ Name (codes "F") ∷ end_brace ∷ []

its_pair : GPair
its_pair = roll-GPair (record { name = codes "b"; value = v.Many (v.Int (codes "1") ∷ v.Var (codes "c") ∷ []) })

its_document : Document
its_document =
    record { definitions = d.Operation word.Query None [] [] (s.Field None (codes "a") (its_pair ∷ []) [] [] ∷ s.Spread (codes "F") [] ∷ []) ∷ [] }

not_on : codes "F" ≢ codes "on"
not_on e = cc

derived : IsDocument written its_document []
unfolding written its_document its_pair
derived =
    a_document (shorthand (a_set
    (field plain (some_arguments (a_pair (list (more_values integer (more_values (variable refl) no_values)))) no_pairs) no_more no_set)
    (more_selections (spread not_on no_more) no_selections))) no_more

-- a constant has no variable
no_constant : (x : GValue) (ts rest : List Lexeme) → IsValue true (dollar ∷ ts) x rest → ⊥
no_constant x ts rest (variable e) = let bad : true ≡ false = e in cc

-- a string is read
read_string : (rest : List Lexeme) → IsValue true (Quoted (codes "\\u0041\\n") ∷ rest) (v.Text (65 ∷ 10 ∷ [])) rest
unfolding unescaped encode
read_string rest = string

-- ---- nesting

-- a bracket opens a 65th level where 64 are open, and no other lexeme does
too_deep : (opens_65th 64 bracket ≡ true) × (opens_65th 63 bracket ≡ false) × (opens_65th 64 end_bracket ≡ false)
too_deep = (refl, refl, refl)

-- ---- faults

-- { } is at fault at its closing bracket
no_selection : (more r : List Lexeme) (x : Selection) → IsSelection (end_brace ∷ more) x r → ⊥
no_selection more r x (field a _ _ _) = elim a [ ]

no_set_of_none : (more r : List Lexeme) (xs : List Selection) → IsSet (brace ∷ end_brace ∷ more) xs r → ⊥
no_set_of_none more r xs (a_set {x = x} a _) = no_selection more _ x a

no_definition : (more r : List Lexeme) (x : Definition) → IsDefinition (brace ∷ end_brace ∷ more) x r → ⊥
no_definition more r x (shorthand {set = xs} h) = no_set_of_none more r xs h

no_document : (more : List Lexeme) (x : Document) → IsDocument (brace ∷ end_brace ∷ more) x [] → ⊥
no_document more x (a_document {x = y} a _) = no_definition more _ y a

a_brace_begins : Begins (brace ∷ [])
a_brace_begins = ((refl, tt), (Name (codes "a") ∷ end_brace ∷ [], _, a_document (shorthand (a_set (field plain no_arguments no_more no_set) no_selections)) no_more))

empty_set : FaultAt (codes "{ }") 2
unfolding lexemes front
empty_set = at_lexeme (omega arith) (token (kind.Punct 123) 0 1 ∷ []) (token (kind.Punct 125) 2 3) [] refl a_brace_begins (λ h. no_document h.1.0 h.1.1 h.1.2)

-- {a(x:01)} is at fault at its bad number
bad_number : FaultAt (codes "{a(x:01)}") 5
unfolding lexemes front
bad_number =
    at_bad (omega arith) 5 refl (
      (refl, (refl, (refl, (refl, (refl, tt))))),
      (Name (codes "null") ∷ end_paren ∷ end_brace ∷ [], _, a_document (shorthand (a_set (field plain (some_arguments (a_pair null) no_pairs) no_more no_set) no_selections)) no_more),
    )

-- `subscription { user { id } ` is at fault at its end, where a bracket is missing
abbrev id_set : List Lexeme
id_set = brace ∷ Name (codes "id") ∷ end_brace ∷ []

id_ends : (n : Text) (r mid : List Lexeme) (x : Selection) → IsSelection (Name n ∷ end_brace ∷ r) x mid → mid ≡ end_brace ∷ r
id_ends n r mid x (field plain no_arguments no_more no_set) = refl
id_ends n r mid x (field plain no_arguments no_more (some_set h)) = elim h [ ]
id_ends n r mid x (field plain no_arguments (one_more h _) _) = elim h [ ]

none_at_bracket : (r mid : List Lexeme) (x : Selection) → IsSelection (end_brace ∷ r) x mid → ⊥
none_at_bracket r mid x (field a _ _ _) = elim a [ ]

after_id : (r rest : List Lexeme) (xs : List Selection) → IsSelections (end_brace ∷ r) xs (end_brace ∷ rest) → rest ≡ r
after_id r rest xs no_selections = refl
after_id r rest xs (more_selections {x = x} a _) = absurd (none_at_bracket r _ x a)

set_ends : (n : Text) (r rest : List Lexeme) (xs : List Selection) → IsSet (brace ∷ Name n ∷ end_brace ∷ r) xs rest → rest ≡ r
set_ends n r rest xs (a_set {x = x} {xs = ys} a b) = after_id r rest ys (subst (λ m. IsSelections m ys (end_brace ∷ rest)) (id_ends n r _ x a) b)

user_ends : (n : Text) (mid : List Lexeme) (x : Selection) → IsSelection (Name n ∷ id_set) x mid → (mid ≡ []) ⊎ (mid ≡ id_set)
user_ends n mid x (field plain no_arguments no_more no_set) = inr refl
user_ends n mid x (field {set = set} plain no_arguments no_more (some_set h)) = inl (set_ends _ [] mid set h)
user_ends n mid x (field plain no_arguments (one_more h _) _) = elim h [ ]

none_of_none : (mid : List Lexeme) (x : Selection) → IsSelection [] x mid → ⊥
none_of_none mid x (field a _ _ _) = elim a [ ]

none_at_set : (mid : List Lexeme) (x : Selection) → IsSelection id_set x mid → ⊥
none_at_set mid x (field a _ _ _) = elim a [ ]

never_closed : (rest : List Lexeme) (xs : List Selection) → IsSelections [] xs (end_brace ∷ rest) → ⊥
never_closed rest xs (more_selections {x = x} a _) = none_of_none _ x a

not_a_bracket : (rest : List Lexeme) (xs : List Selection) → IsSelections id_set xs (end_brace ∷ rest) → ⊥
not_a_bracket rest xs (more_selections {x = x} a _) = none_at_set _ x a

unclosed : (n : Text) (rest : List Lexeme) (xs : List Selection) → IsSet (brace ∷ Name n ∷ id_set) xs rest → ⊥
unclosed n rest xs (a_set {x = x} {xs = ys} a b) = elim (user_ends n _ x a) [
  | inl e ↦ never_closed rest ys (subst (λ m. IsSelections m ys (end_brace ∷ rest)) e b)
  | inr e ↦ not_a_bracket rest ys (subst (λ m. IsSelections m ys (end_brace ∷ rest)) e b)
]

no_unclosed : (rest : List Lexeme) (x : Definition) → IsDefinition (Name (codes "subscription") ∷ brace ∷ Name (codes "user") ∷ id_set) x rest → ⊥
no_unclosed rest x (shorthand h) = elim h [ ]
no_unclosed rest x (operation {set = set} w no_name no_variables no_more h) = unclosed _ rest set h
no_unclosed rest x (operation w no_name no_variables (one_more h _) _) = elim h [ ]

no_unclosed_document : (x : Document) → IsDocument (Name (codes "subscription") ∷ brace ∷ Name (codes "user") ∷ id_set) x [] → ⊥
no_unclosed_document x (a_document {x = y} a _) = no_unclosed _ y a

unclosed_begins : Begins (Name (codes "subscription") ∷ brace ∷ Name (codes "user") ∷ id_set)
unclosed_begins = (
  (refl, (refl, (refl, (refl, (refl, (refl, tt)))))),
  (
    end_brace ∷ [],
    _,
    a_document (operation subscription no_name no_variables no_more
        (a_set (field plain no_arguments no_more (some_set (a_set (field plain no_arguments no_more no_set) no_selections))) no_selections)) no_more,
  ),
)

pub missing_bracket : FaultAt (codes "subscription { user { id } ") 27
unfolding lexemes front
missing_bracket = at_end (omega arith) refl unclosed_begins (λ d h. no_unclosed_document d h.0)
