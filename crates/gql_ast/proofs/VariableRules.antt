-- The rules of types and variables, part by part.
use Rattle.std.proofs.Common.{◌≡◌, ◌≢◌, ℕ, Bool, true, false, List, [], ◌∷◌, ◌++◌, Option, Some, None, refl, ap, sym, ◌∙◌, subst, arith}
use Rattle.std.specs.Prelude.{codes, MatchBool}
use Rattle.request_model.specs.declared.document.GValue.{GValue}
use Rattle.request_model.specs.declared.document.GValue.TheVariants as v
use Rattle.request_model.specs.declared.document.Directive.{Directive}
use Rattle.request_model.specs.declared.document.TypeRef.{TypeRef}
use Rattle.request_model.specs.declared.document.TypeRef.TheVariants as t
use Rattle.request_model.specs.declared.document.VarDef.{VarDef}
use Rattle.request_model.specs.Strings.{Text}
use Rattle.request_model.specs.Grammar.{Lexeme, Punct, Name, Many, no_more, one_more, IsValue, null, Directives, IsType, named, named_strict, listed, listed_strict, MaybeDefault, no_default, a_default, IsVarDef, a_variable, MaybeVariables, no_variables, some_variables}
use Rattle.gql_ast.specs.Fronts.{IsAt, NotAt, NotName}
use Rattle.gql_ast.specs.Reading.{Agree, Took, Stops, Then, Closed, IsName, IsPunct, Strict}
use Rattle.gql_ast.specs.Follow.{Anything, EndsDirectives, EndsVariable}
use Rattle.gql_ast.proofs.Steps.{Same, Follows}
use Rattle.gql_ast.proofs.Loops.{Front, Lists, listed as list_read}
use Rattle.gql_ast.proofs.OneLexeme.{NotAt-agree, at_apart, took_one, took_none}
use Rattle.gql_ast.proofs.ValueRules.{some_name, directives_first}

-- ---- !?

strict_only : (s r : List Lexeme) (y : Bool) → Strict (Punct 33 ∷ s) y r → NotAt 33 r → (y ≡ true) × (r ≡ s)
strict_only s r true e away = (refl, let same : r ≡ s = cc in same)
strict_only s r false e away = absurd (away s (sym e))

pub took_strict : {ts rest : List Lexeme} → ts ≡ Punct 33 ∷ rest → Took Strict (NotAt 33) ts true rest
took_strict e = took_one e (λ s. refl) strict_only

none_only : (s r : List Lexeme) (y : Bool) → NotAt 33 s → Strict s y r → (y ≡ false) × (r ≡ s)
none_only s r true away e = absurd (away r e)
none_only s r false away e = (refl, sym e)

pub took_not_strict : {ts now : List Lexeme} → (now ≡ ts) × NotAt 33 ts → Took Strict (NotAt 33) ts false now
took_not_strict {ts = ts} e = took_none e.0 (λ s. refl) (λ s r y agree h _. none_only s r y (NotAt-agree 33 ts s agree e.1) h)

pub strict_read : (ts now : List Lexeme) (b : Bool) → MatchBool b (ts ≡ Punct 33 ∷ now) ((now ≡ ts) × NotAt 33 ts) → Took Strict (NotAt 33) ts b now
strict_read ts now true h = took_strict h
strict_read ts now false h = took_not_strict h

-- ---- types

abbrev NamedParts : List Lexeme → Text × Bool → List Lexeme → Type 0
NamedParts = Then IsName Strict

abbrev named_of : Text × Bool → TypeRef
named_of p = t.Named p.0 p.1

named_is : (ts r mid : List Lexeme) (n : Text) (b : Bool) → IsName ts n mid → Strict mid b r → IsType ts (t.Named n b) r
named_is ts r mid n true e f = subst (λ u. IsType u (t.Named n true) r) (sym (e ∙ ap (λ u. Name n ∷ u) f)) named_strict
named_is ts r mid n false e f = subst (λ u. IsType u (t.Named n false) r) (sym (e ∙ ap (λ u. Name n ∷ u) f)) named

named_was : (ts r : List Lexeme) (z : TypeRef) → NotAt 91 ts → IsType ts z r → NotAt 33 r → (x : Text × Bool) × NamedParts ts x r × (z ≡ named_of x)
named_was ts r z away named _ = ((_, false), (_, refl, refl), refl)
named_was ts r z away named_strict _ = ((_, true), (_, refl, refl), refl)
named_was ts r z away (listed _) _ = absurd (away _ refl)
named_was ts r z away (listed_strict _) _ = absurd (away _ refl)

pub named_rule : Same NamedParts IsType (NotAt 33) named_of (NotAt 91)
named_rule = record { agrees = NotAt-agree 91; is = λ ts r x h. named_is ts r h.0 x.0 x.1 h.1 h.2; was = named_was }

abbrev pub Closing : List Lexeme → Unit {0} × Bool → List Lexeme → Type 0
Closing = Then (IsPunct 93) Strict

abbrev ListedParts : List Lexeme → TypeRef × (Unit {0} × Bool) → List Lexeme → Type 0
ListedParts = Then IsType Closing

abbrev listed_of : TypeRef × (Unit {0} × Bool) → TypeRef
listed_of p = t.Listed p.0 p.1.1

listed_is : (ts r mid last : List Lexeme) (x : TypeRef) (b : Bool) → IsType ts x mid → mid ≡ Punct 93 ∷ last → Strict last b r → IsType (Punct 91 ∷ ts) (t.Listed x b) r
listed_is ts r mid last x true h e f = listed_strict (subst (λ u. IsType ts x u) (e ∙ ap (λ u. Punct 93 ∷ u) f) h)
listed_is ts r mid last x false h e f = listed (subst (λ u. IsType ts x u) (e ∙ ap (λ u. Punct 93 ∷ u) f) h)

listed_was : (ts r : List Lexeme) (z : TypeRef) → IsType (Punct 91 ∷ ts) z r → NotAt 33 r → (x : TypeRef × (Unit {0} × Bool)) × ListedParts ts x r × (z ≡ listed_of x)
listed_was ts r z (listed h) _ = ((_, (tt, false)), (_, h, (_, refl, refl)), refl)
listed_was ts r z (listed_strict h) _ = ((_, (tt, true)), (_, h, (_, refl, refl)), refl)

pub listed_rule : Follows (Punct 91) ListedParts IsType (NotAt 33) listed_of
listed_rule = record { is = λ ts r x h. listed_is ts r h.0 h.2.0 x.0 x.1.1 h.1 h.2.1 h.2.2; was = listed_was }

-- the closing bracket is no !
pub closing_first : (ts r : List Lexeme) (y : Unit {0} × Bool) → Closing ts y r → NotAt 33 r → NotAt 33 ts
closing_first ts r y h _ = at_apart 93 33 ts (omega arith) (_, h.1)

-- ---- (= Value)?

pub default_rule : Follows (Punct 61) (IsValue true) MaybeDefault (NotAt 61) Some
default_rule = record { is = λ ts r x h. a_default h; was = split }
  where
    split : (ts r : List Lexeme) (z : Option GValue) → MaybeDefault (Punct 61 ∷ ts) z r → NotAt 61 r → (x : GValue) × IsValue true ts x r × (z ≡ Some x)
    split ts r z no_default away = absurd (away _ refl)
    split ts r z (a_default h) _ = (_, h, refl)

no_default_only : (s r : List Lexeme) (y : Option GValue) → NotAt 61 s → MaybeDefault s y r → (y ≡ None) × (r ≡ s)
no_default_only s r y away no_default = (refl, refl)
no_default_only s r y away (a_default _) = absurd (away _ refl)

pub took_no_default : {ts now : List Lexeme} → (now ≡ ts) × NotAt 61 ts → Took MaybeDefault (NotAt 61) ts None now
took_no_default {ts = ts} e = took_none e.0 (λ s. no_default) (λ s r y agree h _. no_default_only s r y (NotAt-agree 61 ts s agree e.1) h)

default_first : (b : ℕ) → 61 ≢ b → (ts r : List Lexeme) (y : Option GValue) → MaybeDefault ts y r → NotAt b r → NotAt b ts
default_first b ne ts r y no_default after = after
default_first b ne ts r y (a_default _) after = at_apart 61 b _ ne (_, refl)

-- ---- $ Name : Type (= Value)? Directives?

abbrev pub Tail : List Lexeme → Option GValue × List Directive → List Lexeme → Type 0
Tail = Then MaybeDefault (Directives true)

abbrev VariableParts : List Lexeme → Unit {0} × (Text × (Unit {0} × (TypeRef × (Option GValue × List Directive)))) → List Lexeme → Type 0
VariableParts = Then (IsPunct 36) (Then IsName (Then (IsPunct 58) (Then IsType Tail)))

abbrev variable_of : Unit {0} × (Text × (Unit {0} × (TypeRef × (Option GValue × List Directive)))) → VarDef
variable_of p = record { name = p.1.0; kind = p.1.1.1.0; default = p.1.1.1.1.0; directives = p.1.1.1.1.1 }

variable_was : (ts r : List Lexeme) (z : VarDef) → Anything ts → IsVarDef ts z r → EndsVariable r → (x : Unit {0} × (Text × (Unit {0} × (TypeRef × (Option GValue × List Directive))))) × VariableParts ts x r × (z ≡ variable_of x)
variable_was ts r z _ (a_variable a b c) _ = ((tt, (_, (tt, (_, (_, _))))), (_, refl, (_, refl, (_, refl, (_, a, (_, b, c))))), refl)

variable_is : (ts r : List Lexeme) (x : Unit {0} × (Text × (Unit {0} × (TypeRef × (Option GValue × List Directive))))) → VariableParts ts x r → IsVarDef ts (variable_of x) r
variable_is ts r x h =
    subst (λ u. IsVarDef u (variable_of x) r) (sym (h.1 ∙ ap (λ u. Punct 36 ∷ u) (h.2.1 ∙ ap (λ u. Name x.1.0 ∷ u) h.2.2.1))) (a_variable h.2.2.2.1 h.2.2.2.2.1 h.2.2.2.2.2)

pub variable_rule : Same VariableParts IsVarDef EndsVariable variable_of Anything
variable_rule = record { agrees = λ _ _ _ _. tt; is = variable_is; was = variable_was }

-- no tail begins with !
pub tail_first : (ts r : List Lexeme) (y : Option GValue × List Directive) → Tail ts y r → EndsVariable r → NotAt 33 ts
tail_first ts r y h after = default_first 33 (omega arith) ts h.0 y.0 h.1 (directives_first true 33 (omega arith) h.0 r y.1 h.2 after.0)

pub directives_equals : (ts r : List Lexeme) (y : List Directive) → Directives true ts y r → EndsVariable r → NotAt 61 ts
directives_equals ts r y h after = directives_first true 61 (omega arith) ts r y h after.1

pub ends_directives : (r : List Lexeme) → EndsVariable r → EndsDirectives r
ends_directives r e = (e.2, e.3)

pub made_tail : (s : List Lexeme) → Tail s (None, []) s
made_tail s = (s, no_default, no_more)

-- a type and no tail may be made up
pub made_type : (s : List Lexeme) → Then IsType Tail (some_name ∷ s) (t.Named (codes "a") false, (None, [])) s
made_type s = (s, named, (s, no_default, no_more))

-- ---- VarDefs?

abbrev pub Closed41 : List Lexeme → List VarDef → List Lexeme → Type 0
Closed41 = Closed (Many IsVarDef) 41

variable_first : (ts r : List Lexeme) (x : VarDef) → IsVarDef ts x r → IsAt 36 ts
variable_first ts r x (a_variable _ _ _) = (_, refl)

begins : (ts r : List Lexeme) (y : List VarDef) → Closed41 ts y r → (b : ℕ) → 36 ≢ b → 41 ≢ b → NotAt b ts
begins ts r y no_more b ne mark = at_apart 41 b _ mark (_, refl)
begins ts r y (one_more a _) b ne mark = at_apart 36 b _ ne (variable_first _ _ _ a)

pub variables_first : (ts r : List Lexeme) (y : List VarDef) → Closed41 ts y r → Anything r → EndsVariable ts
variables_first ts r y h _ = (begins ts r y h 33 (omega arith) (omega arith), begins ts r y h 61 (omega arith) (omega arith), begins ts r y h 64 (omega arith) (omega arith), begins ts r y h 40 (omega arith) (omega arith))

variable_item : (ts r : List Lexeme) (ys : List VarDef) → NotAt 41 ts → Closed41 ts ys r → Anything r →
    (x : VarDef) × (mid : List Lexeme) × (xs : List VarDef) × IsVarDef ts x mid × EndsVariable mid × Closed41 mid xs r × (ys ≡ x ∷ xs)
variable_item ts r ys away no_more _ = absurd (away _ refl)
variable_item ts r ys away (one_more a b) _ = (_, _, _, a, variables_first _ _ _ b tt, b, refl)

pub variables_list : Lists Closed41 Anything IsVarDef EndsVariable (NotAt 41)
variables_list = record { next = λ ts mid rest x xs a b. one_more a b; goes = NotAt-agree 41; item = variable_item }

variables_only : (s r : List Lexeme) (ys : List VarDef) → Closed41 (Punct 41 ∷ s) ys r → Anything r → (ys ≡ []) × (r ≡ s)
variables_only s r ys no_more _ = (refl, refl)
variables_only s r ys (one_more a _) _ = let q = variable_first _ _ _ a in absurd (at_apart 36 41 _ (omega arith) q s refl)

pub variables_end : {ts0 ts rest : List Lexeme} {found : List VarDef} → ts ≡ Punct 41 ∷ rest → Front Closed41 Anything ts0 found ts → Took Closed41 Anything ts0 found rest
variables_end e a = list_read a (took_one e (λ s. no_more) variables_only)

abbrev VariablesParts : List Lexeme → VarDef × List VarDef → List Lexeme → Type 0
VariablesParts = Then IsVarDef Closed41

abbrev listed_variables : VarDef × List VarDef → List VarDef
listed_variables p = p.0 ∷ p.1

pub variables_rule : Follows (Punct 40) VariablesParts MaybeVariables (NotAt 40) listed_variables
variables_rule = record { is = λ ts r x h. some_variables h.1 h.2; was = split }
  where
    split : (ts r : List Lexeme) (z : List VarDef) → MaybeVariables (Punct 40 ∷ ts) z r → NotAt 40 r → (p : VarDef × List VarDef) × VariablesParts ts p r × (z ≡ listed_variables p)
    split ts r z no_variables away = absurd (away _ refl)
    split ts r z (some_variables a b) away = ((_, _), (_, a, b), refl)

no_variables_only : (s r : List Lexeme) (y : List VarDef) → NotAt 40 s → MaybeVariables s y r → (y ≡ []) × (r ≡ s)
no_variables_only s r y away no_variables = (refl, refl)
no_variables_only s r y away (some_variables _ _) = absurd (away _ refl)

pub took_no_variables : {ts now : List Lexeme} → (now ≡ ts) × NotAt 40 ts → Took MaybeVariables (NotAt 40) ts [] now
took_no_variables {ts = ts} e = took_none e.0 (λ s. no_variables) (λ s r y agree h _. no_variables_only s r y (NotAt-agree 40 ts s agree e.1) h)
