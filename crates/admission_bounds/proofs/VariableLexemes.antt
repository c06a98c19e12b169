-- An operation has no more variables than its text has bytes: each takes a lexeme, and each lexeme a byte.
use Rattle.std.proofs.Common.{◌≡◌, ℕ, zero, suc, ◌+◌, ◌-◌, ◌≤◌, Bool, true, false, List, [], ◌∷◌, length, find, Option, Some, None, Result, Ok, Err, refl, subst, arith}
use Rattle.std.proofs.lemmas.List.{length-map}
use Rattle.std.specs.List.{filter_map, AllByRecursion}
use Rattle.serde_json.specs.Data.{Members}
use Rattle.request_model.specs.declared.document.GValue.{GValue}
use Rattle.request_model.specs.declared.document.GPair.{GPair}
use Rattle.request_model.specs.declared.document.Directive.{Directive}
use Rattle.request_model.specs.declared.document.TypeRef.{TypeRef}
use Rattle.request_model.specs.declared.document.VarDef.{VarDef}
use Rattle.request_model.specs.declared.document.Selection.{Selection}
use Rattle.request_model.specs.declared.document.Definition.{Definition}
use Rattle.request_model.specs.declared.document.Definition.TheVariants as definition
use Rattle.request_model.specs.declared.document.Document.{Document}
use Rattle.request_model.specs.declared.flat.Flat.{Flat}
use Rattle.request_model.specs.declared.flat.FlatFault.{FlatFault}
use Rattle.request_model.specs.Strings.{Text}
use Rattle.request_model.specs.Lexemes.{Front, Ignored, Found, Bad, front, with_front, lexemes_from, lexemes}
use Rattle.request_model.specs.Grammar.{Lexeme, end_paren, end_bracket, end_brace, bang, Many, no_more, one_more, MaybeName, no_name, a_name, IsValue, IsValues, IsPair, IsPairs, variable, integer, string, true_, false_, null, enum, list, object, no_values, more_values, a_pair, no_pairs, more_pairs, MaybeArguments, no_arguments, some_arguments, IsDirective, a_directive, Directives, IsType, named, named_strict, listed, listed_strict, MaybeDefault, no_default, a_default, IsVarDef, a_variable, MaybeVariables, no_variables, some_variables, IsFieldName, plain, aliased, IsSelection, IsSelections, IsSet, MaybeSet, field, spread, inline, inline_on, no_selections, more_selections, a_set, no_set, some_set, IsDefinition, shorthand, operation, fragment, IsDocument, a_document}
use Rattle.request_model.specs.Place.{lexeme, lexemes_of, Reads, length_limit}
use Rattle.request_model.specs.Selection.{Operation, operation_of, operations, is_called, or_no_operation, chosen, Flattens, flattened}
use Rattle.query_model.proofs.Positions.{each_found, each_filtered}

-- ---- what is left of lexemes is no longer than they were

abbrev Left : List Lexeme → List Lexeme → Type 0
Left ts rest = length rest ≤ length ts

-- one more stands before them
left_more : (ts rest : List Lexeme) → Left ts rest → length rest ≤ suc (length ts)
left_more ts rest h = omega (arith, h)

left_less : (ts : List Lexeme) (rest : List Lexeme) → suc (length rest) ≤ length ts → Left ts rest
left_less ts rest h = omega (arith, h)

left_on : (ts mid rest : List Lexeme) → Left ts mid → Left mid rest → Left ts rest
left_on ts mid rest h k = omega (arith, h, k)

same : (ts : List Lexeme) → Left ts ts
same ts = omega arith

after_one : (rest : List Lexeme) → length rest ≤ suc (length rest)
after_one rest = omega arith

after_two : (rest : List Lexeme) → length rest ≤ suc (suc (length rest))
after_two rest = omega arith

after_three : (rest : List Lexeme) → length rest ≤ suc (suc (suc (length rest)))
after_three rest = omega arith

two_more : (ts rest : List Lexeme) → Left ts rest → length rest ≤ suc (suc (length ts))
two_more ts rest h = omega (arith, h)

three_more : (ts rest : List Lexeme) → Left ts rest → length rest ≤ suc (suc (suc (length ts)))
three_more ts rest h = omega (arith, h)

four_more : (ts rest : List Lexeme) → Left ts rest → length rest ≤ suc (suc (suc (suc (length ts))))
four_more ts rest h = omega (arith, h)

module _ (constant : Bool) where
  mutual
    value_left : (ts rest : List Lexeme) (x : GValue) → IsValue constant ts x rest → Left ts rest
    value_left ts rest x (variable e) = after_two rest
    value_left ts rest x integer = after_one rest
    value_left ts rest x string = after_one rest
    value_left ts rest x true_ = after_one rest
    value_left ts rest x false_ = after_one rest
    value_left ts rest x null = after_one rest
    value_left ts rest x (enum nt nf nn) = after_one rest
    value_left ts rest x (list {ts = us} {xs = xs} h) = left_more us rest (left_less us rest (values_left us (end_bracket ∷ rest) xs h))
    value_left ts rest x (object {ts = us} {xs = xs} h) = left_more us rest (left_less us rest (pairs_left us (end_brace ∷ rest) xs h))

    values_left : (ts rest : List Lexeme) (xs : List GValue) → IsValues constant ts xs rest → Left ts rest
    values_left ts rest xs no_values = same ts
    values_left ts rest xs (more_values {mid = mid} {x = y} {xs = ys} a b) = left_on ts mid rest (value_left ts mid y a) (values_left mid rest ys b)

    pair_left : (ts rest : List Lexeme) (x : GPair) → IsPair constant ts x rest → Left ts rest
    pair_left ts rest x (a_pair {ts = us} {x = y} a) = two_more us rest (value_left us rest y a)

    pairs_left : (ts rest : List Lexeme) (xs : List GPair) → IsPairs constant ts xs rest → Left ts rest
    pairs_left ts rest xs no_pairs = same ts
    pairs_left ts rest xs (more_pairs {mid = mid} {x = y} {xs = ys} a b) = left_on ts mid rest (pair_left ts mid y a) (pairs_left mid rest ys b)

  arguments_left : (ts rest : List Lexeme) (xs : List GPair) → MaybeArguments constant ts xs rest → Left ts rest
  arguments_left ts rest xs no_arguments = same ts
  arguments_left ts rest xs (some_arguments {ts = us} {mid = mid} {x = y} {xs = ys} a b) =
      left_more us rest (left_on us mid rest (pair_left us mid y a) (left_less mid rest (pairs_left mid (end_paren ∷ rest) ys b)))

  directive_left : (ts rest : List Lexeme) (x : Directive) → IsDirective constant ts x rest → Left ts rest
  directive_left ts rest x (a_directive {ts = us} {xs = xs} a) = two_more us rest (arguments_left us rest xs a)

many_left : {A : Type 0} (R : List Lexeme → A → List Lexeme → Type 0) → ((ts rest : List Lexeme) (x : A) → R ts x rest → Left ts rest) →
    (ts rest : List Lexeme) (xs : List A) → Many R ts xs rest → Left ts rest
many_left R one ts rest xs no_more = same ts
many_left R one ts rest xs (one_more {mid = mid} {x = y} {xs = ys} a b) = left_on ts mid rest (one ts mid y a) (many_left R one mid rest ys b)

directives_left : (constant : Bool) (ts rest : List Lexeme) (xs : List Directive) → Directives constant ts xs rest → Left ts rest
directives_left constant = many_left (IsDirective constant) (directive_left constant)

name_left : (ts rest : List Lexeme) (called : Option Text × Text) → IsFieldName ts called rest → Left ts rest
name_left ts rest called plain = after_one rest
name_left ts rest called aliased = after_three rest

mutual
  selection_left : (ts rest : List Lexeme) (x : Selection) → IsSelection ts x rest → Left ts rest
  selection_left ts rest x (field {t1 = t1} {t2 = t2} {t3 = t3} {called = called} {args = args} {ds = ds} {set = set} a b c d) =
      left_on ts t1 rest (name_left ts t1 called a)
      (left_on t1 t2 rest (arguments_left false t1 t2 args b) (left_on t2 t3 rest (directives_left false t2 t3 ds c) (maybe_left t3 rest set d)))
  selection_left ts rest x (spread {ts = us} {ds = ds} ne a) = two_more us rest (directives_left false us rest ds a)
  selection_left ts rest x (inline {ts = us} {mid = mid} {ds = ds} {set = set} a b) = left_more us rest (left_on us mid rest (directives_left false us mid ds a) (set_left mid rest set b))
  selection_left ts rest x (inline_on {ts = us} {mid = mid} {ds = ds} {set = set} a b) =
      three_more us rest (left_on us mid rest (directives_left false us mid ds a) (set_left mid rest set b))

  selections_left : (ts rest : List Lexeme) (xs : List Selection) → IsSelections ts xs rest → Left ts rest
  selections_left ts rest xs no_selections = same ts
  selections_left ts rest xs (more_selections {mid = mid} {x = y} {xs = ys} a b) = left_on ts mid rest (selection_left ts mid y a) (selections_left mid rest ys b)

  set_left : (ts rest : List Lexeme) (xs : List Selection) → IsSet ts xs rest → Left ts rest
  set_left ts rest xs (a_set {ts = us} {mid = mid} {x = y} {xs = ys} a b) =
      left_more us rest (left_on us mid rest (selection_left us mid y a) (left_less mid rest (selections_left mid (end_brace ∷ rest) ys b)))

  maybe_left : (ts rest : List Lexeme) (xs : List Selection) → MaybeSet ts xs rest → Left ts rest
  maybe_left ts rest xs no_set = same ts
  maybe_left ts rest xs (some_set a) = set_left ts rest xs a

-- ---- variables

type_left : (ts rest : List Lexeme) (x : TypeRef) → IsType ts x rest → Left ts rest
type_left ts rest x named = after_one rest
type_left ts rest x named_strict = after_two rest
type_left ts rest x (listed {ts = us} {x = y} a) = left_more us rest (left_less us rest (type_left us (end_bracket ∷ rest) y a))
type_left ts rest x (listed_strict {ts = us} {x = y} a) =
    left_more us rest (left_less us rest (left_less us (bang ∷ rest) (type_left us (end_bracket ∷ bang ∷ rest) y a)))

default_left : (ts rest : List Lexeme) (x : Option GValue) → MaybeDefault ts x rest → Left ts rest
default_left ts rest x no_default = same ts
default_left ts rest x (a_default {ts = us} {x = y} a) = left_more us rest (value_left true us rest y a)

-- each takes a lexeme and more
variable_takes : (ts rest : List Lexeme) (x : VarDef) → IsVarDef ts x rest → 1 + length rest ≤ length ts
variable_takes ts rest x (a_variable {n = n} {ts = us} {t1 = t1} {t2 = t2} {type = k} {value = d} {ds = ds} a b c) =
    let more = left_on us t1 rest (type_left us t1 k a) (left_on t1 t2 rest (default_left t1 t2 d b) (directives_left true t2 rest ds c)) in
    omega (arith, more)

several_take : (ts rest : List Lexeme) (xs : List VarDef) → Many IsVarDef ts xs rest → length xs + length rest ≤ length ts
several_take ts rest xs no_more = omega arith
several_take ts rest xs (one_more {mid = mid} {x = y} {xs = ys} a b) =
    let one = variable_takes ts mid y a in
    let more = several_take mid rest ys b in
    omega (arith, one, more)

variables_take : (ts rest : List Lexeme) (xs : List VarDef) → MaybeVariables ts xs rest → length xs + length rest ≤ length ts
variables_take ts rest xs no_variables = omega arith
variables_take ts rest xs (some_variables {ts = us} {mid = mid} {x = y} {xs = ys} a b) =
    let one = variable_takes us mid y a in
    let more = several_take mid (end_paren ∷ rest) ys b in
    omega (arith, one, more)

-- ---- definitions

abbrev FewIn : ℕ → Definition → Type 0
FewIn n (definition.Operation w name vs ds set) = length vs ≤ n
FewIn n (definition.Fragment name on ds set) = Unit {0}

maybe_name_left : (ts rest : List Lexeme) (x : Option Text) → MaybeName ts x rest → Left ts rest
maybe_name_left ts rest x no_name = same ts
maybe_name_left ts rest x a_name = after_one rest

definition_takes : (n : ℕ) (ts rest : List Lexeme) (x : Definition) → IsDefinition ts x rest → length ts ≤ n → FewIn n x × Left ts rest
definition_takes n ts rest x (shorthand {set = set} a) h = (omega arith, set_left ts rest set a)
definition_takes n ts rest x (operation {ts = us} {t1 = t1} {t2 = t2} {t3 = t3} {name = name} {vars = vars} {ds = ds} {set = set} w a b c d) h =
    let before = maybe_name_left us t1 name a in
    let takes = variables_take t1 t2 vars b in
    let after = left_on t2 t3 rest (directives_left false t2 t3 ds c) (set_left t3 rest set d) in
    (omega (arith, h, before, takes), omega (arith, before, takes, after))
definition_takes n ts rest x (fragment {ts = us} {mid = mid} {ds = ds} {set = set} e a b) h =
    (tt, four_more us rest (left_on us mid rest (directives_left false us mid ds a) (set_left mid rest set b)))

definitions_take : (n : ℕ) (ts rest : List Lexeme) (xs : List Definition) → Many IsDefinition ts xs rest → length ts ≤ n → AllByRecursion (FewIn n) xs
definitions_take n ts rest xs no_more h = tt
definitions_take n ts rest xs (one_more {mid = mid} {x = y} {xs = ys} a b) h =
    let one = definition_takes n ts mid y a h in
    let left = one.1 in
    (one.0, definitions_take n mid rest ys b (omega (arith, h, left)))

document_takes : (n : ℕ) (ts rest : List Lexeme) (d : Document) → IsDocument ts d rest → length ts ≤ n → AllByRecursion (FewIn n) d.definitions
document_takes n ts rest d (a_document {mid = mid} {x = y} {xs = ys} a b) h =
    let one = definition_takes n ts mid y a h in
    let left = one.1 in
    (one.0, definitions_take n mid rest ys b (omega (arith, h, left)))

-- ---- operations

abbrev FewOf : ℕ → Operation → Type 0
FewOf n o = length o.vars ≤ n

some_is : {X : Type 0} (x y : X) → ◌≡◌ {A = Option X} (Some x) (Some y) → x ≡ y
some_is x y h = cc

ok_is : (x y : Operation) → ◌≡◌ {A = Result Operation FlatFault} (Ok x) (Ok y) → x ≡ y
ok_is x y h = cc

no_operation : (e : FlatFault) (x : Operation) → ◌≡◌ {A = Result Operation FlatFault} (Err e) (Ok x) → ⊥
no_operation e x h = cc

operations_few : (n : ℕ) (ds : List Definition) → AllByRecursion (FewIn n) ds → AllByRecursion (FewOf n) (filter_map operation_of ds)
operations_few n ds all = each_filtered (FewIn n) (FewOf n) operation_of one ds all
  where
    one : (x : Definition) → FewIn n x → (o : Operation) → operation_of x ≡ Some o → FewOf n o
    one (definition.Operation w name vs es set) few o h = subst (FewOf n) (some_is _ o h) few
    one (definition.Fragment name on es set) few o h = absurd (let q : ◌≡◌ {A = Option Operation} None (Some o) = h in cc)

chosen_few : (n : ℕ) (wanted : Option Text) (os : List Operation) (o : Operation) → AllByRecursion (FewOf n) os → chosen wanted os ≡ Ok o → FewOf n o
chosen_few n (Some name) os o all h = go (find (is_called name) os) refl h
  where
    go : (r : Option Operation) → find (is_called name) os ≡ r → or_no_operation r ≡ Ok o → FewOf n o
    go None e k = absurd (no_operation _ o k)
    go (Some p) e k = subst (FewOf n) (ok_is p o k) (each_found (FewOf n) (is_called name) os p all e).0
chosen_few n None [] o all h = absurd (no_operation _ o h)
chosen_few n None (p ∷ []) o all h = subst (FewOf n) (ok_is p o h) all.0
chosen_few n None (p ∷ q ∷ os) o all h = absurd (no_operation _ o h)

-- ---- lexemes

lexemes_few : (left at : ℕ) (z : Text) → length (lexemes_from left at z).0 ≤ length z
lexemes_few left at [] = omega arith
lexemes_few (suc left) at (b ∷ z) = let more = lexemes_few left (at + 1) z in omega (arith, more)
lexemes_few zero at (b ∷ z) = go (front (b ∷ z)) (λ left. lexemes_few left (at + 1) z)
  where
    go : (f : Front) → ((left : ℕ) → length (lexemes_from left (at + 1) z).0 ≤ length z) → length (with_front f at (λ left. lexemes_from left (at + 1) z)).0 ≤ length (b ∷ z)
    go (Ignored n) more = let here = more (n - 1) in omega (arith, here)
    go (Found k n) more = let here = more (n - 1) in omega (arith, here)
    go Bad more = omega arith

text_lexemes : (text : Text) → length (lexemes_of text (lexemes text).0) ≤ length text
unfolding lexemes
text_lexemes text =
    let mapped : length (lexemes_of text (lexemes_from 0 0 text).0) ≡ length (lexemes_from 0 0 text).0 = length-map (lexemes_from 0 0 text).0 (lexeme text) in
    let few = lexemes_few 0 0 text in
    omega (arith, mapped, few)

-- ---- the variables of a flat selection

flat_few : (n : ℕ) (d : Document) (wanted : Option Text) (given : Members) (s : Flat) → AllByRecursion (FewIn n) d.definitions → Flattens d wanted given (Ok s) → length s.vars ≤ n
flat_few n d wanted given s all (flattened {o = o} chose none word) = chosen_few n wanted (operations d) o (operations_few n d.definitions all) chose

pub variables_within : (text : Text) (d : Document) (wanted : Option Text) (given : Members) (s : Flat) → Reads text d → Flattens d wanted given (Ok s) → length s.vars ≤ length_limit
variables_within text d wanted given s r f =
    let here = text_lexemes text in
    let fits = r.fits in
    flat_few length_limit d wanted given s (document_takes length_limit (lexemes_of text (lexemes text).0) [] d r.derives.0 (omega (arith, here, fits))) f
