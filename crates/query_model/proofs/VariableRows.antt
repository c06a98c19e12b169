-- Worked rows of variables.
use Rattle.std.proofs.Common.{◌≡◌, [], ◌∷◌, Option, Some, None, Result, Ok, Err, Bool, true, false, pos, neg_ℤ}
use Rattle.std.specs.Prelude.{codes}
use Rattle.serde_json.specs.Data.{Data, Num, unsigned, Items, no_items, item, Members, no_members, member}
use Rattle.serde_json.specs.Data as json
use Rattle.scalar_val.specs.declared.val.Val.{Val}
use Rattle.scalar_val.specs.declared.val.Val.TheVariants as val
use Rattle.plan_model.specs.declared.filter.Slot.{Slot}
use Rattle.plan_model.specs.declared.filter.Slot.TheVariants.{One, Many}
use Rattle.request_model.specs.declared.document.GValue.{GValue}
use Rattle.request_model.specs.declared.document.GValue.TheVariants as v
use Rattle.request_model.specs.declared.document.TypeRef.{TypeRef}
use Rattle.request_model.specs.declared.document.TypeRef.TheVariants as type
use Rattle.request_model.specs.declared.document.VarDef.{VarDef}
use Rattle.request_model.proofs.SelectionRules.{canonical_texts}
use Rattle.query_model.specs.declared.fault.FaultKind.{FaultKind}
use Rattle.query_model.specs.declared.fault.FaultKind.TheVariants as fault
use Rattle.query_model.specs.declared.variable.Variable.{Variable}
use Rattle.query_model.specs.Variables.{variable_of}
use Rattle.query_model.proofs.QueryRules.{queries}

abbrev declares : TypeRef → Option GValue → VarDef
declares t default = record { name = codes "a"; kind = t; default = default; directives = [] }

abbrev value_of : Result Variable FaultKind → Result Slot FaultKind
value_of (Ok x) = Ok x.value
value_of (Err e) = Err e

-- the value where this is given, and where nothing is
abbrev with : TypeRef → Data → Result Slot FaultKind
with t d = value_of (variable_of (member (codes "a") d no_members) (declares t None))

abbrev without : TypeRef → Option GValue → Result Slot FaultKind
without t default = value_of (variable_of no_members (declares t default))

abbrev int : Bool → TypeRef
int strict = type.Named (codes "Int") strict

abbrev ints : Bool → Bool → TypeRef
ints strict_item strict = type.Listed (int strict_item) strict

abbrev one : Data
one = json.number (unsigned 1)

abbrev one_and_null : Data
one_and_null = json.array (item one (item json.null no_items))

abbrev int_1 : Val
int_1 = val.Int (pos 1)

given : with (int false) one ∷ with (int false) json.null ∷ with (int true) json.null ∷ with (int true) (json.string (codes "1")) ∷ with (int true) one_and_null ∷ [] ≡
    Ok (One int_1) ∷ Ok (One val.Null) ∷ Err fault.MissingVariable ∷ Err fault.WrongType ∷ Err fault.WrongType ∷ []
given = simp (queries, canonical_texts)

-- one value is a list of one, null is no list, and a null item needs a type that allows it
listed : with (ints false false) one ∷ with (ints false false) one_and_null ∷ with (ints true false) one_and_null ∷ with (ints false false) json.null ∷ with (ints false true) json.null ∷ with (ints true true) (json.array no_items) ∷ [] ≡
    Ok (Many (int_1 ∷ [])) ∷ Ok (Many (int_1 ∷ val.Null ∷ [])) ∷ Err fault.WrongType ∷ Ok (One val.Null) ∷ Err fault.MissingVariable ∷ Ok (Many []) ∷ []
listed = simp (queries, canonical_texts)

-- a default counts where nothing is given, and fits as a literal does
defaults : without (int true) (Some (v.Int (codes "1"))) ∷ without (int true) None ∷ without (int false) None ∷ without (int true) (Some (v.Text (codes "1"))) ∷ without (ints false false) (Some (v.Many (v.Int (codes "1") ∷ v.Null ∷ []))) ∷ without (ints false false) (Some (v.Int (codes "1"))) ∷ [] ≡
    Ok (One int_1) ∷ Err fault.MissingVariable ∷ Ok (One val.Null) ∷ Err fault.WrongType ∷ Ok (Many (int_1 ∷ val.Null ∷ [])) ∷ Ok (Many (int_1 ∷ [])) ∷ []
defaults = simp (queries, canonical_texts)

-- a default that doesn't fit is no fault where a value is given
only_what_counts : value_of (variable_of (member (codes "a") one no_members) (declares (int true) (Some (v.Text (codes "x"))))) ≡ Ok (One int_1)
only_what_counts = simp (queries, canonical_texts)

-- bigint takes an integer or a spelling; names of types are exact, and lists of lists aren't served
types : with (type.Named (codes "bigint") true) (json.string (codes "-12")) ∷ with (type.Named (codes "int") false) one ∷ with (type.Listed (ints false false) false) one ∷ with (type.Named (codes "Boolean") true) (json.boolean true) ∷ [] ≡
    Ok (One (val.Big (neg_ℤ (pos 12)))) ∷ Err fault.WrongType ∷ Err fault.WrongType ∷ Ok (One (val.Bool true)) ∷ []
types = simp (queries, canonical_texts)
