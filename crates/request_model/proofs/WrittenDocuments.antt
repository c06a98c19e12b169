-- What lexemes say has the names and integers of the lexemes.
use Rattle.std.proofs.Common.{◌≡◌, ◌≢◌, Bool, true, false, ◌&&◌, ◌||◌, List, ◌∷◌, map, Option, Some, None, refl, subst, ◌∙◌, inl, inr, ◌⊎◌}
use Rattle.std.proofs.lemmas.Bool.{and_from, or_from, not_from_false, cases_Bool}
use Rattle.std.proofs.lemmas.List.Folds.{list_all-map}
use Rattle.std.proofs.lemmas.Slice.Eq.{bytes_eq-Decides}
use Rattle.std.specs.Prelude.{IsTrue, codes}
use Rattle.std.specs.Str.{bytes_eq}
use Rattle.std.specs.List.{list_all, AllByRecursion}
use Rattle.request_model.specs.declared.document.GValue.{GValue}
use Rattle.request_model.specs.declared.document.GValue.TheVariants as v
use Rattle.request_model.specs.declared.document.GValue.TheVariants.{rolls-Var, rolls-Int, rolls-Text, rolls-Bool, rolls-Null, rolls-Enum, rolls-Many, rolls-Object}
use Rattle.request_model.specs.declared.document.GValue.TheOpen.{GValue-F}
use Rattle.request_model.specs.declared.document.GValue.TheViews.{roll-GValue}
use Rattle.request_model.specs.declared.document.GValue.TheFolds.{map-GValue, fold-roll-GPair}
use Rattle.request_model.specs.declared.document.GPair.{GPair}
use Rattle.request_model.specs.declared.document.Directive.{Directive}
use Rattle.request_model.specs.declared.document.TypeRef.{TypeRef}
use Rattle.request_model.specs.declared.document.VarDef.{VarDef}
use Rattle.request_model.specs.declared.document.Selection.{Selection}
use Rattle.request_model.specs.declared.document.Selection.TheVariants as s
use Rattle.request_model.specs.declared.document.Selection.TheVariants.{rolls-Field, rolls-Spread, rolls-Inline}
use Rattle.request_model.specs.declared.document.Selection.TheOpen.{Selection-F}
use Rattle.request_model.specs.declared.document.Selection.TheViews.{roll-Selection}
use Rattle.request_model.specs.declared.document.Selection.TheFolds.{fold-Selection, fold-roll-Selection, map-Selection}
use Rattle.request_model.specs.declared.document.Definition.{Definition}
use Rattle.request_model.specs.declared.document.Definition.TheVariants as definition
use Rattle.request_model.specs.declared.document.Document.{Document}
use Rattle.request_model.specs.Strings.{Text, unescaped}
use Rattle.request_model.specs.Grammar.{Lexeme, end_bracket, end_brace, Many, no_more, one_more, MaybeName, no_name, a_name, IsValue, IsValues, IsPair, IsPairs, variable, integer, string, true_, false_, null, enum, list, object, no_values, more_values, a_pair, no_pairs, more_pairs, MaybeArguments, no_arguments, some_arguments, IsDirective, a_directive, Directives, IsType, named, named_strict, listed, listed_strict, MaybeDefault, no_default, a_default, IsVarDef, a_variable, MaybeVariables, no_variables, some_variables, IsFieldName, plain, aliased, IsSelection, IsSelections, IsSet, MaybeSet, field, spread, inline, inline_on, no_selections, more_selections, a_set, no_set, some_set, IsDefinition, shorthand, operation, fragment, IsDocument, a_document}
use Rattle.request_model.specs.Selection.{response_key}
use Rattle.request_model.specs.SelectionLaws.{is_name, is_enum, itself, written_value_step, written_pair_step, is_written_pair}
use Rattle.request_model.proofs.ReadValues.{is_written_value, written-roll}
use Rattle.request_model.proofs.WrittenLexemes.{AreGood}

-- ---- values

written_as : (f : GValue-F GValue GPair) (x : GValue) → roll-GValue f ≡ x → IsTrue (written_value_step (map-GValue GValue GPair Bool Bool is_written_value is_written_pair f)) → IsTrue (is_written_value x)
written_as f x e g = subst (λ z. IsTrue (is_written_value z)) e (written-roll f ∙ g)

bytes_differ : (t w : Text) → t ≢ w → bytes_eq t w ≡ false
bytes_differ t w n = go (cases_Bool (bytes_eq t w))
  where
    go : (bytes_eq t w ≡ true) ⊎ (bytes_eq t w ≡ false) → bytes_eq t w ≡ false
    go (inl e) = absurd (n ((bytes_eq-Decides t w).0 e))
    go (inr e) = e

enum_from : (n : Text) → IsTrue (is_name n) → n ≢ codes "true" → n ≢ codes "false" → n ≢ codes "null" → IsTrue (is_enum n)
enum_from n g nt nf nn =
    and_from (is_name n) _ g
    (not_from_false _ (or_from (bytes_eq n (codes "true") || bytes_eq n (codes "false")) (bytes_eq n (codes "null"))
    (or_from (bytes_eq n (codes "true")) (bytes_eq n (codes "false")) (bytes_differ n (codes "true") nt) (bytes_differ n (codes "false") nf)) (bytes_differ n (codes "null") nn)))

module _ (constant : Bool) where
  mutual
    value_good : (ts rest : List Lexeme) (x : GValue) → IsValue constant ts x rest → AreGood ts → IsTrue (is_written_value x) × AreGood rest
    value_good ts rest x (variable {n = n} e) g = (written_as (GValue-F.Var n) (v.Var n) (rolls-Var n) g.1.0, g.1.1)
    value_good ts rest x (integer {n = n}) g = (written_as (GValue-F.Int n) (v.Int n) (rolls-Int n) g.0, g.1)
    value_good ts rest x (string {n = n}) g = (written_as (GValue-F.Text (unescaped n)) (v.Text (unescaped n)) (rolls-Text (unescaped n)) refl, g.1)
    value_good ts rest x true_ g = (written_as (GValue-F.Bool true) (v.Bool true) (rolls-Bool true) refl, g.1)
    value_good ts rest x false_ g = (written_as (GValue-F.Bool false) (v.Bool false) (rolls-Bool false) refl, g.1)
    value_good ts rest x null g = (written_as GValue-F.Null v.Null rolls-Null refl, g.1)
    value_good ts rest x (enum {n = n} nt nf nn) g = (written_as (GValue-F.Enum n) (v.Enum n) (rolls-Enum n) (enum_from n g.0 nt nf nn), g.1)
    value_good ts rest x (list {ts = us} {xs = xs} h) g =
        let r = values_good us (end_bracket ∷ rest) xs h g.1 in
        (written_as (GValue-F.Many xs) (v.Many xs) (rolls-Many xs) (list_all-map itself is_written_value xs ∙ r.0), r.1.1)
    value_good ts rest x (object {ts = us} {xs = xs} h) g =
        let r = pairs_good us (end_brace ∷ rest) xs h g.1 in
        (written_as (GValue-F.Object xs) (v.Object xs) (rolls-Object xs) (list_all-map itself is_written_pair xs ∙ r.0), r.1.1)

    values_good : (ts rest : List Lexeme) (xs : List GValue) → IsValues constant ts xs rest → AreGood ts → IsTrue (list_all is_written_value xs) × AreGood rest
    values_good ts rest xs no_values g = (refl, g)
    values_good ts rest xs (more_values {mid = mid} {x = y} {xs = ys} a b) g =
        let one = value_good ts mid y a g in
        let more = values_good mid rest ys b one.1 in
        (and_from (is_written_value y) (list_all is_written_value ys) one.0 more.0, more.1)

    pair_good : (ts rest : List Lexeme) (x : GPair) → IsPair constant ts x rest → AreGood ts → IsTrue (is_written_pair x) × AreGood rest
    pair_good ts rest x (a_pair {n = n} {ts = us} {x = y} a) g =
        let one = value_good us rest y a g.1.1 in
        (fold-roll-GPair Bool Bool written_value_step written_pair_step (record { name = n; value = y }) ∙ and_from (is_name n) (is_written_value y) g.0 one.0, one.1)

    pairs_good : (ts rest : List Lexeme) (xs : List GPair) → IsPairs constant ts xs rest → AreGood ts → IsTrue (list_all is_written_pair xs) × AreGood rest
    pairs_good ts rest xs no_pairs g = (refl, g)
    pairs_good ts rest xs (more_pairs {mid = mid} {x = y} {xs = ys} a b) g =
        let one = pair_good ts mid y a g in
        let more = pairs_good mid rest ys b one.1 in
        (and_from (is_written_pair y) (list_all is_written_pair ys) one.0 more.0, more.1)

  arguments_good : (ts rest : List Lexeme) (xs : List GPair) → MaybeArguments constant ts xs rest → AreGood ts → IsTrue (list_all is_written_pair xs) × AreGood rest
  arguments_good ts rest xs no_arguments g = (refl, g)
  arguments_good ts rest xs (some_arguments {ts = us} {mid = mid} {x = y} {xs = ys} a b) g =
      let one = pair_good us mid y a g.1 in
      let more = pairs_good mid _ ys b one.1 in
      (and_from (is_written_pair y) (list_all is_written_pair ys) one.0 more.0, more.1.1)

  directive_rest : (ts rest : List Lexeme) (x : Directive) → IsDirective constant ts x rest → AreGood ts → AreGood rest
  directive_rest ts rest x (a_directive {ts = us} {xs = xs} a) g = (arguments_good us rest xs a g.1.1).1

many_rest : {A : Type 0} (R : List Lexeme → A → List Lexeme → Type 0) → ((ts rest : List Lexeme) (x : A) → R ts x rest → AreGood ts → AreGood rest) →
    (ts rest : List Lexeme) (xs : List A) → Many R ts xs rest → AreGood ts → AreGood rest
many_rest R one ts rest xs no_more g = g
many_rest R one ts rest xs (one_more {mid = mid} {x = y} {xs = ys} a b) g = many_rest R one mid rest ys b (one ts mid y a g)

directives_rest : (constant : Bool) (ts rest : List Lexeme) (xs : List Directive) → Directives constant ts xs rest → AreGood ts → AreGood rest
directives_rest constant = many_rest (IsDirective constant) (directive_rest constant)

-- ---- variables

type_rest : (ts rest : List Lexeme) (x : TypeRef) → IsType ts x rest → AreGood ts → AreGood rest
type_rest ts rest x named g = g.1
type_rest ts rest x named_strict g = g.1.1
type_rest ts rest x (listed {ts = us} {x = y} a) g = (type_rest us _ y a g.1).1
type_rest ts rest x (listed_strict {ts = us} {x = y} a) g = (type_rest us _ y a g.1).1.1

default_rest : (ts rest : List Lexeme) (x : Option GValue) → MaybeDefault ts x rest → AreGood ts → AreGood rest
default_rest ts rest x no_default g = g
default_rest ts rest x (a_default {ts = us} {x = y} a) g = (value_good true us rest y a g.1).1

variable_rest : (ts rest : List Lexeme) (x : VarDef) → IsVarDef ts x rest → AreGood ts → AreGood rest
variable_rest ts rest x (a_variable {ts = us} {t1 = t1} {t2 = t2} {type = k} {value = d} {ds = ds} a b c) g =
    directives_rest true t2 rest ds c (default_rest t1 t2 d b (type_rest us t1 k a g.1.1.1))

variables_rest : (ts rest : List Lexeme) (xs : List VarDef) → MaybeVariables ts xs rest → AreGood ts → AreGood rest
variables_rest ts rest xs no_variables g = g
variables_rest ts rest xs (some_variables {ts = us} {mid = mid} {x = y} {xs = ys} a b) g = (many_rest IsVarDef variable_rest mid _ ys b (variable_rest us mid y a g.1)).1

-- ---- selections

abbrev pub good_step : Selection-F Bool → Bool
good_step (Selection-F.Field alias name args ds inner) = is_name (response_key alias name) && is_name name && list_all is_written_pair args && list_all itself inner
good_step (Selection-F.Spread name ds) = true
good_step (Selection-F.Inline on ds inner) = list_all itself inner

abbrev pub is_good_selection : Selection → Bool
is_good_selection = fold-Selection Bool good_step

pub good_rolled : (f : Selection-F Selection) → is_good_selection (roll-Selection f) ≡ good_step (map-Selection Selection Bool is_good_selection f)
good_rolled f = fold-roll-Selection Bool good_step f

good_as : (f : Selection-F Selection) (x : Selection) → roll-Selection f ≡ x → IsTrue (good_step (map-Selection Selection Bool is_good_selection f)) → IsTrue (is_good_selection x)
good_as f x e g = subst (λ z. IsTrue (is_good_selection z)) e (good_rolled f ∙ g)

name_good : (ts rest : List Lexeme) (called : Option Text × Text) → IsFieldName ts called rest → AreGood ts → IsTrue (is_name (response_key called.0 called.1)) × IsTrue (is_name called.1) × AreGood rest
name_good ts rest called plain g = (g.0, g.0, g.1)
name_good ts rest called aliased g = (g.0, g.1.1.0, g.1.1.1)

mutual
  selection_good : (ts rest : List Lexeme) (x : Selection) → IsSelection ts x rest → AreGood ts → IsTrue (is_good_selection x) × AreGood rest
  selection_good ts rest x (field {t1 = t1} {t2 = t2} {t3 = t3} {called = called} {args = args} {ds = ds} {set = set} a b c d) g =
      let names = name_good ts t1 called a g in
      let arguments = arguments_good false t1 t2 args b names.2 in
      let inner = maybe_good t3 rest set d (directives_rest false t2 t3 ds c arguments.1) in
      let key = is_name (response_key called.0 called.1) in
      let name = is_name called.1 in
      let written = list_all is_written_pair args in (
        good_as (Selection-F.Field called.0 called.1 args ds set) (s.Field called.0 called.1 args ds set) (rolls-Field called.0 called.1 args ds set)
            (and_from (key && name && written) (list_all itself (map is_good_selection set)) (and_from (key && name) written (and_from key name names.0 names.1) arguments.0) (list_all-map itself is_good_selection set ∙ inner.0)),
        inner.1,
      )
  selection_good ts rest x (spread {n = n} {ts = us} {ds = ds} ne a) g = (good_as (Selection-F.Spread n ds) (s.Spread n ds) (rolls-Spread n ds) refl, directives_rest false us rest ds a g.1.1)
  selection_good ts rest x (inline {ts = us} {mid = mid} {ds = ds} {set = set} a b) g =
      let inner = set_good mid rest set b (directives_rest false us mid ds a g.1) in
      (good_as (Selection-F.Inline None ds set) (s.Inline None ds set) (rolls-Inline None ds set) (list_all-map itself is_good_selection set ∙ inner.0), inner.1)
  selection_good ts rest x (inline_on {n = n} {ts = us} {mid = mid} {ds = ds} {set = set} a b) g =
      let inner = set_good mid rest set b (directives_rest false us mid ds a g.1.1.1) in
      (good_as (Selection-F.Inline (Some n) ds set) (s.Inline (Some n) ds set) (rolls-Inline (Some n) ds set) (list_all-map itself is_good_selection set ∙ inner.0), inner.1)

  selections_good : (ts rest : List Lexeme) (xs : List Selection) → IsSelections ts xs rest → AreGood ts → IsTrue (list_all is_good_selection xs) × AreGood rest
  selections_good ts rest xs no_selections g = (refl, g)
  selections_good ts rest xs (more_selections {mid = mid} {x = y} {xs = ys} a b) g =
      let one = selection_good ts mid y a g in
      let more = selections_good mid rest ys b one.1 in
      (and_from (is_good_selection y) (list_all is_good_selection ys) one.0 more.0, more.1)

  set_good : (ts rest : List Lexeme) (xs : List Selection) → IsSet ts xs rest → AreGood ts → IsTrue (list_all is_good_selection xs) × AreGood rest
  set_good ts rest xs (a_set {ts = us} {mid = mid} {x = y} {xs = ys} a b) g =
      let one = selection_good us mid y a g.1 in
      let more = selections_good mid (end_brace ∷ rest) ys b one.1 in
      (and_from (is_good_selection y) (list_all is_good_selection ys) one.0 more.0, more.1.1)

  maybe_good : (ts rest : List Lexeme) (xs : List Selection) → MaybeSet ts xs rest → AreGood ts → IsTrue (list_all is_good_selection xs) × AreGood rest
  maybe_good ts rest xs no_set g = (refl, g)
  maybe_good ts rest xs (some_set a) g = set_good ts rest xs a g

-- ---- definitions

abbrev pub GoodDefinition : Definition → Type 0
GoodDefinition (definition.Operation w n vs ds set) = IsTrue (list_all is_good_selection set)
GoodDefinition (definition.Fragment n on ds set) = IsTrue (list_all is_good_selection set)

maybe_name_rest : (ts rest : List Lexeme) (x : Option Text) → MaybeName ts x rest → AreGood ts → AreGood rest
maybe_name_rest ts rest x no_name g = g
maybe_name_rest ts rest x a_name g = g.1

definition_good : (ts rest : List Lexeme) (x : Definition) → IsDefinition ts x rest → AreGood ts → GoodDefinition x × AreGood rest
definition_good ts rest x (shorthand {set = set} a) g = set_good ts rest set a g
definition_good ts rest x (operation {ts = us} {t1 = t1} {t2 = t2} {t3 = t3} {name = name} {vars = vars} {ds = ds} {set = set} w a b c d) g =
    set_good t3 rest set d (directives_rest false t2 t3 ds c (variables_rest t1 t2 vars b (maybe_name_rest us t1 name a g.1)))
definition_good ts rest x (fragment {ts = us} {mid = mid} {ds = ds} {set = set} n a b) g = set_good mid rest set b (directives_rest false us mid ds a g.1.1.1.1)

definitions_good : (ts rest : List Lexeme) (xs : List Definition) → Many IsDefinition ts xs rest → AreGood ts → AllByRecursion GoodDefinition xs
definitions_good ts rest xs no_more g = tt
definitions_good ts rest xs (one_more {mid = mid} {x = y} {xs = ys} a b) g =
    let one = definition_good ts mid y a g in
    (one.0, definitions_good mid rest ys b one.1)

pub document_good : (ts rest : List Lexeme) (d : Document) → IsDocument ts d rest → AreGood ts → AllByRecursion GoodDefinition d.definitions
document_good ts rest d (a_document {mid = mid} {x = y} {xs = ys} a b) g =
    let one = definition_good ts mid y a g in
    (one.0, definitions_good mid rest ys b one.1)
