-- The rules of definitions and documents, part by part.
use Rattle.std.proofs.Common.{◌≡◌, ◌≢◌, ℕ, false, List, [], ◌∷◌, ◌++◌, Option, Some, None, refl, ap, sym, ◌∙◌, subst, arith}
use Rattle.std.specs.Prelude.{codes, slice_index}
use Rattle.request_model.specs.declared.document.Directive.{Directive}
use Rattle.request_model.specs.declared.document.Selection.{Selection}
use Rattle.request_model.specs.declared.document.VarDef.{VarDef}
use Rattle.request_model.specs.declared.document.OpWord.{OpWord}
use Rattle.request_model.specs.declared.document.OpWord.TheVariants as word
use Rattle.request_model.specs.declared.document.Definition.{Definition}
use Rattle.request_model.specs.declared.document.Definition.TheVariants as d
use Rattle.request_model.specs.declared.document.Document.{Document}
use Rattle.request_model.specs.Strings.{Text}
use Rattle.request_model.specs.Grammar.{Lexeme, Punct, Name, Many, no_more, one_more, MaybeName, no_name, a_name, Directives, MaybeVariables, no_variables, some_variables, IsSet, IsOpWord, query, mutation, subscription, IsDefinition, shorthand, operation, fragment, IsDocument, a_document}
use Rattle.gql_ast.specs.Fronts.{IsAt, NotAt, NotName, NotWord}
use Rattle.gql_ast.specs.Reading.{Agree, Took, Stops, Then, Behind, IsName, IsWord, IsFragmentName}
use Rattle.gql_ast.specs.Follow.{Anything, AtEnd, EndsDirectives}
use Rattle.gql_ast.proofs.Steps.{Same}
use Rattle.gql_ast.proofs.Loops.{Front, Lists, listed}
use Rattle.gql_ast.proofs.OneLexeme.{NotAt-agree, NotName-agree, NotWord-agree, IsAt-agree, at_apart, not_name, took_one, took_none, stops_here}
use Rattle.gql_ast.proofs.ValueRules.{some_name, directives_first}
use Rattle.gql_ast.proofs.SelectionRules.{set_first, Body, some_field, some_set_of, made_set, made_body, no_body}

-- ---- Name?

some_name_only : (n : Text) (s r : List Lexeme) (y : Option Text) → MaybeName (Name n ∷ s) y r → NotName r → (y ≡ Some n) × (r ≡ s)
some_name_only n s r y no_name away = absurd (away _ _ refl)
some_name_only n s r y a_name away = (refl, refl)

pub took_some_name : {n : Text} {ts rest : List Lexeme} → ts ≡ Name n ∷ rest → Took MaybeName NotName ts (Some n) rest
took_some_name {n = n} e = took_one e (λ s. a_name) (some_name_only n)

no_name_only : (s r : List Lexeme) (y : Option Text) → NotName s → MaybeName s y r → (y ≡ None) × (r ≡ s)
no_name_only s r y away no_name = (refl, refl)
no_name_only s r y away a_name = absurd (away _ _ refl)

pub took_no_name : {ts now : List Lexeme} → (now ≡ ts) × NotName ts → Took MaybeName NotName ts None now
took_no_name {ts = ts} e = took_none e.0 (λ s. no_name) (λ s r y agree h _. no_name_only s r y (NotName-agree ts s agree e.1) h)

-- ---- what comes after the word of an operation

at_no_name : (b : ℕ) (ts : List Lexeme) → IsAt b ts → NotName ts
at_no_name b ts h n more e = let q : Punct b ∷ h.0 ≡ Name n ∷ more = sym h.1 ∙ e in cc

abbrev pub AfterName : List Lexeme → List VarDef × (List Directive × List Selection) → List Lexeme → Type 0
AfterName = Then MaybeVariables Body

body_paren : (ts mid r : List Lexeme) (ds : List Directive) (x : List Selection) → Directives false ts ds mid → IsSet mid x r → NotAt 40 ts
body_paren ts mid r ds x a b = directives_first false 40 (omega arith) ts mid ds a (at_apart 123 40 mid (omega arith) (set_first mid r x b))

pub body_first : (ts r : List Lexeme) (y : List Directive × List Selection) → Body ts y r → Anything r → NotAt 40 ts
body_first ts r y h _ = body_paren ts h.0 r y.0 y.1 h.1 h.2

named_body : (n : Text) (more ts mid r : List Lexeme) (ds : List Directive) (x : List Selection) → ts ≡ Name n ∷ more → Directives false ts ds mid → IsSet mid x r → ⊥
named_body n more ts mid r ds x e a b = no_body n more mid r ds x (subst (λ u. Directives false u ds mid) e a) b

variables_no_name : (ts mid : List Lexeme) (vs : List VarDef) → MaybeVariables ts vs mid → NotName mid → NotName ts
variables_no_name ts mid vs no_variables away = away
variables_no_name ts mid vs (some_variables _ _) away = at_no_name 40 _ (_, refl)

pub after_name_first : (ts r : List Lexeme) (y : List VarDef × (List Directive × List Selection)) → AfterName ts y r → Anything r → NotName ts
after_name_first ts r y h _ = variables_no_name ts h.0 y.0 h.1 (λ n more e. named_body n more h.0 h.2.0 r y.1.0 y.1.1 e h.2.1 h.2.2)

abbrev OperationParts : List Lexeme → Option Text × (List VarDef × (List Directive × List Selection)) → List Lexeme → Type 0
OperationParts = Then MaybeName AfterName

abbrev operation_of : OpWord → Option Text × (List VarDef × (List Directive × List Selection)) → Definition
operation_of o p = d.Operation o p.0 p.1.0 p.1.1.0 p.1.1.1

word_only : (w : Text) (o o' : OpWord) → IsOpWord w o → IsOpWord w o' → o' ≡ o
word_only w o o' query query = refl
word_only w o o' mutation mutation = refl
word_only w o o' subscription subscription = refl

heads_apart : (a b : ℕ) (x y : Text) → a ≢ b → a ∷ x ≡ b ∷ y → ⊥
heads_apart a b x y ne e = ne (ap (λ u. slice_index u 0) e)

no_fragment : (w : Text) (o : OpWord) → w ≡ codes "fragment" → IsOpWord w o → ⊥
no_fragment w o e query = heads_apart 113 102 _ _ (omega arith) e
no_fragment w o e mutation = heads_apart 109 102 _ _ (omega arith) e
no_fragment w o e subscription = heads_apart 115 102 _ _ (omega arith) e

no_set_here : (n : Text) (ts r : List Lexeme) (x : List Selection) → IsSet (Name n ∷ ts) x r → ⊥
no_set_here n ts r x h = elim h [ ]

operation_was : (w : Text) (o : OpWord) → IsOpWord w o → (ts r : List Lexeme) (z : Definition) → Anything ts → IsDefinition (Name w ∷ ts) z r → Anything r →
    (p : Option Text × (List VarDef × (List Directive × List Selection))) × OperationParts ts p r × (z ≡ operation_of o p)
operation_was w o is ts r z _ (shorthand h) _ = absurd (no_set_here w ts r _ h)
operation_was w o is ts r z _ (operation {o = o'} {name = name} {vars = vars} {ds = ds} {set = set} h a b c e) _ =
    ((name, (vars, (ds, set))), (_, a, (_, b, (_, c, e))), ap (λ u. operation_of u (name, (vars, (ds, set)))) (word_only w o o' is h))
operation_was w o is ts r z _ (fragment _ _ _) _ = absurd (no_fragment _ o refl is)

pub operation_rule : (w : Text) (o : OpWord) → IsOpWord w o → Same OperationParts (Behind (Name w) IsDefinition) Anything (operation_of o) Anything
operation_rule w o is = record { agrees = λ _ _ _ _. tt; is = λ ts r p h. operation is h.1 h.2.1 h.2.2.1 h.2.2.2; was = operation_was w o is }

pub made_after_name : (s : List Lexeme) → AfterName (some_set_of ++ s) ([], ([], some_field ∷ [])) s
made_after_name s = (_, no_variables, made_body s)

-- no word of an operation comes next
pub no_word : (ts t1 t2 t3 : List Lexeme) → (t1 ≡ ts) × NotWord (codes "query") ts → (t2 ≡ t1) × NotWord (codes "mutation") t1 → (t3 ≡ t2) × NotWord (codes "subscription") t2 →
    (w : Text) (o : OpWord) → IsOpWord w o → NotWord w ts
no_word ts t1 t2 t3 a b c w o query = a.1
no_word ts t1 t2 t3 a b c w o mutation = subst (NotWord (codes "mutation")) a.0 b.1
no_word ts t1 t2 t3 a b c w o subscription = subst (NotWord (codes "subscription")) (b.0 ∙ a.0) c.1

-- ---- what comes after `fragment`

fragment_name_only : (n : Text) (s r : List Lexeme) (y : Text) → IsFragmentName (Name n ∷ s) y r → Anything r → (y ≡ n) × (r ≡ s)
fragment_name_only n s r y h _ = let e : Name n ∷ s ≡ Name y ∷ r = h.0 in (let same : y ≡ n = cc in same, let same : r ≡ s = cc in same)

pub took_fragment_name : {n : Text} {ts rest : List Lexeme} → n ≢ codes "on" → ts ≡ Name n ∷ rest → Took IsFragmentName Anything ts n rest
took_fragment_name {n = n} ne e = took_one e (λ s. (refl, ne)) (fragment_name_only n)

some_name_ne : codes "a" ≢ codes "on"
some_name_ne e = cc

pub stops_on : {ts : List Lexeme} → ((more : List Lexeme) × (ts ≡ Name (codes "on") ∷ more)) → Stops IsFragmentName Anything ts ts
stops_on {ts = ts} at = stops_here refl (some_name ∷ []) (codes "a") (λ s. (refl, some_name_ne)) (λ s r y agree h. h.1 (named_on ts s agree at y r h.0))
  where
    named_on : (ts s : List Lexeme) → Agree ts s → ((more : List Lexeme) × (ts ≡ Name (codes "on") ∷ more)) → (y : Text) (r : List Lexeme) → s ≡ Name y ∷ r → y ≡ codes "on"
    named_on [] s agree at y r e = let bad : [] ≡ Name (codes "on") ∷ at.0 = at.1 in absurd cc
    named_on (t ∷ ts) s agree at y r e = let first : t ≡ Name (codes "on") = cc in let other : t ∷ agree.0 ≡ Name y ∷ r = sym agree.1 ∙ e in cc

pub stops_no_name : {ts now : List Lexeme} → (now ≡ ts) × NotName ts → Stops IsFragmentName Anything ts now
stops_no_name {ts = ts} e = stops_here e.0 (some_name ∷ []) (codes "a") (λ s. (refl, some_name_ne)) (λ s r y agree h. NotName-agree ts s agree e.1 y r h.0)

abbrev pub AfterOn : List Lexeme → Text × (List Directive × List Selection) → List Lexeme → Type 0
AfterOn = Then IsName Body

abbrev FragmentParts : List Lexeme → Text × (Unit {0} × (Text × (List Directive × List Selection))) → List Lexeme → Type 0
FragmentParts = Then IsFragmentName (Then (IsWord (codes "on")) AfterOn)

abbrev fragment_of : Text × (Unit {0} × (Text × (List Directive × List Selection))) → Definition
fragment_of p = d.Fragment p.0 p.1.1.0 p.1.1.1.0 p.1.1.1.1

abbrev AfterFragment : List Lexeme → Definition → List Lexeme → Type 0
AfterFragment = Behind (Name (codes "fragment")) IsDefinition

fragment_is : (ts r : List Lexeme) (p : Text × (Unit {0} × (Text × (List Directive × List Selection)))) → FragmentParts ts p r → AfterFragment ts (fragment_of p) r
fragment_is ts r p h =
    subst (λ u. AfterFragment u (fragment_of p) r) (sym (h.1.0 ∙ ap (λ u. Name p.0 ∷ u) (h.2.1 ∙ ap (λ u. Name (codes "on") ∷ u) h.2.2.1))) (fragment h.1.1 h.2.2.2.1 h.2.2.2.2)

fragment_was : (ts r : List Lexeme) (z : Definition) → Anything ts → AfterFragment ts z r → Anything r →
    (p : Text × (Unit {0} × (Text × (List Directive × List Selection)))) × FragmentParts ts p r × (z ≡ fragment_of p)
fragment_was ts r z _ (shorthand h) _ = absurd (no_set_here _ ts r _ h)
fragment_was ts r z _ (operation h _ _ _ _) _ = absurd (no_fragment _ _ refl h)
fragment_was ts r z _ (fragment ne a b) _ = ((_, (tt, (_, (_, _)))), (_, (refl, ne), (_, refl, (_, refl, (_, a, b)))), refl)

pub fragment_rule : Same FragmentParts AfterFragment Anything fragment_of Anything
fragment_rule = record { agrees = λ _ _ _ _. tt; is = fragment_is; was = fragment_was }

pub made_after_on : (s : List Lexeme) → AfterOn ((some_name ∷ some_set_of) ++ s) (codes "a", ([], some_field ∷ [])) s
made_after_on s = (_, refl, made_body s)

-- ---- definitions

abbrev shorthand_of : List Selection → Definition
shorthand_of x = d.Operation word.Query None [] [] x

shorthand_was : (ts r : List Lexeme) (z : Definition) → IsAt 123 ts → IsDefinition ts z r → Anything r → (x : List Selection) × IsSet ts x r × (z ≡ shorthand_of x)
shorthand_was ts r z on (shorthand h) _ = (_, h, refl)
shorthand_was ts r z on (operation {w = w} {ts = more} _ _ _ _ _) _ = absurd (not_name 123 w more on.0 on.1)
shorthand_was ts r z on (fragment _ _ _) _ = absurd (not_name 123 _ _ on.0 on.1)

pub shorthand_rule : Same IsSet IsDefinition Anything shorthand_of (IsAt 123)
shorthand_rule = record { agrees = IsAt-agree 123; is = λ ts r x h. shorthand h; was = shorthand_was }

definition_never : (s r : List Lexeme) (y : Definition) → NotAt 123 s → NotWord (codes "fragment") s → ((w : Text) (o : OpWord) → IsOpWord w o → NotWord w s) → IsDefinition s y r → ⊥
definition_never s r y a b c (shorthand h) = let q = set_first s r _ h in a q.0 q.1
definition_never s r y a b c (operation h _ _ _ _) = c _ _ h _ refl
definition_never s r y a b c (fragment _ _ _) = b _ refl

pub stops_definition : (ts t1 t2 : List Lexeme) → NotAt 123 ts → (t1 ≡ ts) × NotWord (codes "fragment") ts → ((w : Text) (o : OpWord) → IsOpWord w o → NotWord w t1) → t2 ≡ t1 → Stops IsDefinition Anything ts t2
stops_definition ts t1 t2 a b c e =
    stops_here (e ∙ b.0) some_set_of (shorthand_of (some_field ∷ [])) (λ s. shorthand (made_set s))
    (λ s r y agree h. definition_never s r y (NotAt-agree 123 ts s agree a) (NotWord-agree (codes "fragment") ts s agree b.1) (λ w o is. NotWord-agree w ts s agree (subst (NotWord w) b.0 (c w o is))) h)

-- ---- Definition* up to the end

abbrev pub IsMore : List Lexeme → Type 0
IsMore ts = ts ≢ []

IsMore-agree : (ts s : List Lexeme) → Agree ts s → IsMore ts → IsMore s
IsMore-agree [] s h n e = n refl
IsMore-agree (t ∷ ts) s h n e = let bad : t ∷ h.0 ≡ [] = sym h.1 ∙ e in cc

definition_item : (ts r : List Lexeme) (ys : List Definition) → IsMore ts → Many IsDefinition ts ys r → AtEnd r →
    (x : Definition) × (mid : List Lexeme) × (xs : List Definition) × IsDefinition ts x mid × Anything mid × Many IsDefinition mid xs r × (ys ≡ x ∷ xs)
definition_item ts r ys on no_more e = absurd (on e)
definition_item ts r ys on (one_more a b) e = (_, _, _, a, tt, b, refl)

pub definitions_list : Lists (Many IsDefinition) AtEnd IsDefinition Anything IsMore
definitions_list = record { next = λ ts mid rest x xs a b. one_more a b; goes = IsMore-agree; item = definition_item }

some_definition : (s r : List Lexeme) (y : Definition) → s ≡ [] → IsDefinition s y r → ⊥
some_definition s r y e (shorthand h) = let q = set_first s r _ h in let bad : Punct 123 ∷ q.0 ≡ [] = sym q.1 ∙ e in cc
some_definition s r y e (operation {w = w} {ts = more} _ _ _ _ _) = let bad : Name w ∷ more ≡ [] = e in cc
some_definition s r y e (fragment {n = n} {on = on} {ts = more} _ _ _) = let bad : Name (codes "fragment") ∷ Name n ∷ Name (codes "on") ∷ Name on ∷ more ≡ [] = e in cc

no_definitions_only : (s r : List Lexeme) (y : List Definition) → s ≡ [] → Many IsDefinition s y r → (y ≡ []) × (r ≡ s)
no_definitions_only s r y e no_more = (refl, refl)
no_definitions_only s r y e (one_more {x = x} a _) = absurd (some_definition s _ x e a)

pub definitions_end : {ts0 ts : List Lexeme} {found : List Definition} → ts ≡ [] → Front (Many IsDefinition) AtEnd ts0 found ts → Took (Many IsDefinition) AtEnd ts0 found ts
definitions_end {ts = ts} e a = listed a (took_none refl (λ s. no_more) (λ s r y agree h _. no_definitions_only s r y (subst (λ u. Agree u s) e agree) h))

-- ---- a document

abbrev DocumentParts : List Lexeme → Definition × List Definition → List Lexeme → Type 0
DocumentParts = Then IsDefinition (Many IsDefinition)

abbrev document_of : Definition × List Definition → Document
document_of p = record { definitions = p.0 ∷ p.1 }

document_was : (ts r : List Lexeme) (z : Document) → Anything ts → IsDocument ts z r → AtEnd r → (p : Definition × List Definition) × DocumentParts ts p r × (z ≡ document_of p)
document_was ts r z _ (a_document a b) _ = ((_, _), (_, a, b), refl)

pub document_rule : Same DocumentParts IsDocument AtEnd document_of Anything
document_rule = record { agrees = λ _ _ _ _. tt; is = λ ts r p h. a_document h.1 h.2; was = document_was }
