-- Worked rows of field collection: merging, directives, fragments and conflicts.
use Rattle.std.proofs.Common.{◌≡◌, ◌≢◌, inl, inr, ℕ, Bool, true, false, List, [], ◌∷◌, map, Some, None, Ok, refl, ap, sym, ◌∙◌, arith}
use Rattle.std.specs.Prelude.{codes, slice_index}
use Rattle.std.specs.List.{AllByRecursion}
use Rattle.serde_json.specs.Data.{no_members}
use Rattle.request_model.specs.declared.document.GValue.{GValue}
use Rattle.request_model.specs.declared.document.GValue.TheVariants as v
use Rattle.request_model.specs.declared.document.GValue.TheViews.{out-GPair}
use Rattle.request_model.specs.declared.document.GPair.{GPair, roll-GPair}
use Rattle.request_model.specs.declared.document.Directive.{Directive}
use Rattle.request_model.specs.declared.document.Selection.{Selection}
use Rattle.request_model.specs.declared.document.Selection.TheVariants as s
use Rattle.request_model.specs.declared.document.TypeRef.TheVariants as t
use Rattle.request_model.specs.declared.document.VarDef.{VarDef}
use Rattle.request_model.specs.declared.document.OpWord.TheVariants as op
use Rattle.request_model.specs.declared.document.Definition.{Definition}
use Rattle.request_model.specs.declared.document.Definition.TheVariants as d
use Rattle.request_model.specs.declared.document.Document.{Document}
use Rattle.request_model.specs.declared.flat.FlatField.{FlatField}
use Rattle.request_model.specs.declared.flat.FlatField.TheViews.{roll-FlatField}
use Rattle.request_model.specs.declared.flat.FlatFault.TheVariants as fault
use Rattle.scalar_val.specs.declared.word.Word.TheVariants as word
use Rattle.request_model.specs.Strings.{Text}
use Rattle.request_model.specs.Selection.{Operation, operations, chosen, by_name, shares_name, flat_of, HasFault}
use Rattle.request_model.specs.Canonical.{canonical, value_text}
use Rattle.request_model.proofs.SelectionRules.{selections, canonical_texts}

abbrev leaf : Text → Selection
leaf name = s.Field None name [] [] []

abbrev node : Text → List Selection → Selection
node name set = s.Field None name [] [] set

abbrev pair : Text → GValue → GPair
pair name x = roll-GPair (record { name = name; value = x })

abbrev query : List Selection → Operation
query set = record { word = op.Query; name = None; vars = []; directives = []; select = set }

abbrev document : Operation → List Definition → Document
document o others = record { definitions = d.Operation o.word o.name o.vars o.directives o.select ∷ others }

-- ---- a sub-selection from a later field: { u u { a } }, where the first has none

abbrev later_set : Operation
later_set = query (leaf (codes "u") ∷ node (codes "u") (leaf (codes "a") ∷ []) ∷ [])

from_later : canonical (flat_of (document later_set []) no_members later_set word.Query) ≡ codes "query u:u{a:a}"
from_later = simp (selections, canonical_texts)

-- ---- the first one's arguments and its place: { u(x: 1) { a } w u: u(x: 1) { b } }

abbrev with_x : List Selection → Selection
with_x set = s.Field None (codes "u") (pair (codes "x") (v.Int (codes "1")) ∷ []) [] set

abbrev around : Operation
around = query (with_x (leaf (codes "a") ∷ []) ∷ leaf (codes "w") ∷ with_x (leaf (codes "b") ∷ []) ∷ [])

at_first_place : canonical (flat_of (document around []) no_members around word.Query) ≡
    codes "query u:u(x:1){a:a b:b} w:w"
at_first_place = simp (selections, canonical_texts)

-- ---- two fragments of one name: the first is collected, and the document is refused

-- { ...F } fragment F on q { a } fragment F on q { b }
abbrev spreads_F : Operation
spreads_F = query (s.Spread (codes "F") [] ∷ [])

abbrev F_with : Text → Definition
F_with name = d.Fragment (codes "F") (codes "q") [] (leaf name ∷ [])

abbrev two_Fs : Document
two_Fs = document spreads_F (F_with (codes "a") ∷ F_with (codes "b") ∷ [])

first_fragment : canonical (flat_of two_Fs no_members spreads_F word.Query) ≡ codes "query a:a"
first_fragment = simp (selections, canonical_texts)

two_fragments : HasFault two_Fs no_members spreads_F fault.Conflict
two_fragments = inl refl

-- { ...F } fragment F on q { a } fragment G on q { b } has no such fault
abbrev F_and_G : Document
F_and_G = document spreads_F (F_with (codes "a") ∷ d.Fragment (codes "G") (codes "q") [] (leaf (codes "b") ∷ []) ∷ [])

one_F : shares_name F_and_G spreads_F ≡ false
one_F = refl

-- query A { a } query A { b }, and ($a: Int, $a: String)
abbrev operation_A : Text → Definition
operation_A name = d.Operation op.Query (Some (codes "A")) [] [] (leaf name ∷ [])

abbrev two_As : Document
two_As = record { definitions = operation_A (codes "a") ∷ operation_A (codes "b") ∷ [] }

abbrev first_A : Operation
first_A = record {
  word = op.Query;
  name = Some (codes "A");
  vars = [];
  directives = [];
  select = leaf (codes "a") ∷ [];
}

first_operation : chosen (Some (codes "A")) (operations two_As) ≡ Ok first_A
first_operation = refl

two_operations : HasFault two_As no_members first_A fault.Conflict
two_operations = inl refl

abbrev of_type : Text → VarDef
of_type name = record { name = codes "a"; kind = t.Named name false; default = None; directives = [] }

abbrev twice_declared : Operation
twice_declared = record {
  word = op.Query;
  name = None;
  vars = of_type (codes "Int") ∷ of_type (codes "String") ∷ [];
  directives = [];
  select = leaf (codes "a") ∷ [];
}

two_variables : HasFault (document twice_declared []) no_members twice_declared fault.Conflict
two_variables = inl refl

-- ---- a directive's condition is its one argument

abbrev if_ : Bool → GPair
if_ b = pair (codes "if") (v.Bool b)

abbrev skipped : List GPair → Operation
skipped args =
    query (leaf (codes "b") ∷ s.Field None (codes "a") [] (record { name = codes "skip"; args = args } ∷ []) [] ∷ [])

abbrev only : Operation → Document
only o = document o []

-- @skip(if: true, x: 1), @skip(x: 1, if: true), @skip(if: true, if: true), @skip(x: true) and @skip
abbrev no_conditions : List (List GPair)
no_conditions =
    (if_ true ∷ pair (codes "x") (v.Int (codes "1")) ∷ [])
    ∷ (pair (codes "x") (v.Int (codes "1")) ∷ if_ true ∷ [])
    ∷ (if_ true ∷ if_ true ∷ [])
    ∷ (pair (codes "x") (v.Bool true) ∷ [])
    ∷ [] ∷ []

second_argument : AllByRecursion
    (λ args. HasFault (only (skipped args)) no_members (skipped args) fault.NotBoolean) no_conditions
second_argument = (
  inl (simp selections),
  (inl (simp selections), (inl (simp selections), (inl (simp selections), (inl (simp selections), tt)))),
)

-- @skip(if: true) and @skip(if: false)
abbrev skipped_if : Bool → Operation
skipped_if b = skipped (if_ b ∷ [])

one_argument : map (λ b. canonical (flat_of (only (skipped_if b)) no_members (skipped_if b) word.Query))
    (true ∷ false ∷ []) ≡
    codes "query b:b" ∷ codes "query b:b a:a" ∷ []
one_argument = simp (selections, canonical_texts)

-- ---- conflicts

abbrev first_value : List GPair → Text
first_value [] = []
first_value (p ∷ ps) = value_text (out-GPair p).value

another_letter : codes "b" ≢ codes "c"
another_letter e = let h : ◌≡◌ {A = ℕ} 98 99 = ap (λ (name : Text). slice_index name 0) e in omega (arith, h)

abbrev aliased : Text → Selection
aliased name = s.Field (Some (codes "k")) name [] [] []

-- below the root, in one selection set and in two that are merged: { u { k: b k: c } } and { u { k: b } u { k: c } }
abbrev in_one_set : Operation
in_one_set = query (node (codes "u") (aliased (codes "b") ∷ aliased (codes "c") ∷ []) ∷ [])

below_the_root : HasFault (document in_one_set []) no_members in_one_set fault.Conflict
below_the_root = inr (simp selections (inl (inr (inl (inl (inl (inl another_letter)))))))

abbrev in_two_sets : Operation
in_two_sets = query (node (codes "u") (aliased (codes "b") ∷ []) ∷ node (codes "u") (aliased (codes "c") ∷ []) ∷ [])

in_merged_sets : HasFault (document in_two_sets []) no_members in_two_sets fault.Conflict
in_merged_sets = inr (simp selections (inl (inr (inl (inl (inl (inl another_letter)))))))

-- the order of arguments is no difference: { u(x: 1, y: 2) u(y: 2, x: 1) }
abbrev number : Text → Text → GPair
number name n = pair name (v.Int n)

abbrev twice : List GPair → List GPair → Operation
twice a b = query (s.Field None (codes "u") a [] [] ∷ s.Field None (codes "u") b [] [] ∷ [])

abbrev in_any_order : Operation
in_any_order = twice
    (number (codes "x") (codes "1") ∷ number (codes "y") (codes "2") ∷ [])
    (number (codes "y") (codes "2") ∷ number (codes "x") (codes "1") ∷ [])

same_arguments : HasFault (document in_any_order []) no_members in_any_order fault.Conflict → ⊥
same_arguments (inl e) = cc
same_arguments (inr c) = elim (simp selections at c) [
  | inl (inl (inl (inl e))) ↦ e refl
  | inl (inl (inl (inr e))) ↦ e refl
  | inl (inl (inr e)) ↦ e
  | inl (inr e) ↦ e
  | inr e ↦ e
]

-- all else is one: values, the spelling of an integer, the order within an object and of arguments of one name:
-- { u(x: 1) u(x: 2) }, { u(x: 0) u(x: -0) }, { u(x: {a: 1, b: 2}) u(x: {b: 2, a: 1}) } and
-- { u(x: 1, x: 2) u(x: 2, x: 1) }
abbrev object : List GPair → GPair
object pairs = pair (codes "x") (v.Object pairs)

abbrev unlike : List (Operation)
unlike =
    twice (number (codes "x") (codes "1") ∷ []) (number (codes "x") (codes "2") ∷ [])
    ∷ twice (number (codes "x") (codes "0") ∷ []) (number (codes "x") (codes "-0") ∷ [])
    ∷ twice
    (object (number (codes "a") (codes "1") ∷ number (codes "b") (codes "2") ∷ []) ∷ [])
    (object (number (codes "b") (codes "2") ∷ number (codes "a") (codes "1") ∷ []) ∷ [])
    ∷ twice
    (number (codes "x") (codes "1") ∷ number (codes "x") (codes "2") ∷ [])
    (number (codes "x") (codes "2") ∷ number (codes "x") (codes "1") ∷ [])
    ∷ []

abbrev starts : ℕ → List GPair → ℕ
starts place args = slice_index (first_value args) place

-- so it is where the values of the first argument differ at some place
module _ (a b : List GPair) (place m n : ℕ) (differ : ◌≡◌ {A = ℕ} m n → ⊥) where
  unlike_at : starts place (by_name a) ≡ m → starts place (by_name b) ≡ n →
      HasFault (only (twice a b)) no_members (twice a b) fault.Conflict
  unlike_at e f =
      inr (simp selections (inl (inl (inl (inr (λ same. differ (sym e ∙ ap (starts place) same ∙ f)))))))

other_arguments : AllByRecursion (λ o. HasFault (only o) no_members o fault.Conflict) unlike
other_arguments = (
  unlike_at _ _ 0 49 50 (λ e. omega (arith, e)) (simp canonical_texts) (simp canonical_texts),
  (
    unlike_at _ _ 0 48 45 (λ e. omega (arith, e)) (simp canonical_texts) (simp canonical_texts),
    (
      unlike_at _ _ 1 97 98 (λ e. omega (arith, e)) (simp canonical_texts) (simp canonical_texts),
      (unlike_at _ _ 0 49 50 (λ e. omega (arith, e)) (simp canonical_texts) (simp canonical_texts), tt),
    ),
  ),
)
