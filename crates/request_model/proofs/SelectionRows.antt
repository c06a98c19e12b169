-- Worked rows of field collection, its faults and canonical texts.
use Rattle.std.proofs.Common.{◌≡◌, ◌≢◌, inl, inr, ℕ, List, [], ◌∷◌, Some, None, Err, true, false, refl, ap, arith}
use Rattle.std.specs.Prelude.{codes, slice_index}
use Rattle.serde_json.specs.Data.{Data, boolean, no_members, member}
use Rattle.request_model.specs.declared.document.GValue.{GValue}
use Rattle.request_model.specs.declared.document.GValue.TheVariants as v
use Rattle.request_model.specs.declared.document.GPair.{GPair, roll-GPair}
use Rattle.request_model.specs.declared.document.Directive.{Directive}
use Rattle.request_model.specs.declared.document.TypeRef.TheVariants as t
use Rattle.request_model.specs.declared.document.VarDef.{VarDef}
use Rattle.request_model.specs.declared.document.Selection.{Selection}
use Rattle.request_model.specs.declared.document.Selection.TheVariants as s
use Rattle.request_model.specs.declared.document.OpWord.{OpWord}
use Rattle.request_model.specs.declared.document.OpWord.TheVariants as op
use Rattle.request_model.specs.declared.document.Definition.{Definition}
use Rattle.request_model.specs.declared.document.Definition.TheVariants as d
use Rattle.request_model.specs.declared.document.Document.{Document}
use Rattle.request_model.specs.declared.flat.FlatField.{FlatField}
use Rattle.request_model.specs.declared.flat.FlatField.TheViews.{roll-FlatField}
use Rattle.request_model.specs.declared.flat.FlatFault.TheVariants as fault
use Rattle.scalar_val.specs.declared.word.Word.TheVariants as word
use Rattle.request_model.specs.Strings.{Text}
use Rattle.request_model.specs.Selection.{Operation, Fragment, flat_of, HasFault, Flattens, not_chosen, refused, spread_there}
use Rattle.request_model.specs.Canonical.{canonical}
use Rattle.request_model.proofs.SelectionRules.{selections, canonical_texts}

abbrev leaf : Text → Selection
leaf name = s.Field None name [] [] []

abbrev node : Text → List Selection → Selection
node name set = s.Field None name [] [] set

abbrev pair : Text → GValue → GPair
pair name x = roll-GPair (record { name = name; value = x })

abbrev directive : Text → GValue → Directive
directive name x = record { name = name; args = pair (codes "if") x ∷ [] }

abbrev operation : OpWord → List VarDef → List Selection → Operation
operation w vs set = record { word = w; name = None; vars = vs; directives = []; select = set }

abbrev defined : Operation → Definition
defined o = d.Operation o.word o.name o.vars o.directives o.select

abbrev document : Operation → List Definition → Document
document o others = record { definitions = defined o ∷ others }

abbrev query : List Selection → Operation
query set = operation op.Query [] set

abbrev alone : Operation → Document
alone o = document o []

-- ---- collection

-- { u { a } u { b a } }
abbrev two_sets : Operation
two_sets = query (node (codes "u") (leaf (codes "a") ∷ []) ∷ node (codes "u") (leaf (codes "b") ∷ leaf (codes "a") ∷ []) ∷ [])

merged : canonical (flat_of (alone two_sets) no_members two_sets word.Query) ≡ codes "query u:u{a:a b:b}"
merged = simp (selections, canonical_texts)

-- { u { ...F ... on user { x } ...F } v: u @include(if: false) { y } w { z @skip(if: true) } } fragment F on user { a: b ...F }
abbrev with_fragment : Operation
with_fragment = query
    (node (codes "u") (s.Spread (codes "F") [] ∷ s.Inline (Some (codes "post")) [] (leaf (codes "x") ∷ []) ∷ s.Spread (codes "F") [] ∷ [])
    ∷ s.Field (Some (codes "v")) (codes "u") [] (directive (codes "include") (v.Bool false) ∷ []) (leaf (codes "y") ∷ [])
    ∷ node (codes "w") (s.Field None (codes "z") [] (directive (codes "skip") (v.Bool true) ∷ []) [] ∷ [])
    ∷ [])

abbrev fragment_F : Definition
fragment_F = d.Fragment (codes "F") (codes "user") [] (s.Field (Some (codes "a")) (codes "b") [] [] [] ∷ s.Spread (codes "F") [] ∷ [])

abbrev flat_leaf : Text → Text → FlatField
flat_leaf key name = roll-FlatField (record { key = key; name = name; args = []; nested = false; conditions = []; fields = [] })

abbrev flat_node : Text → List Text → List FlatField → FlatField
flat_node name conditions fields = roll-FlatField (record { key = name; name = name; args = []; nested = true; conditions = conditions; fields = fields })

collected_once : (flat_of (document with_fragment (fragment_F ∷ [])) no_members with_fragment word.Query).fields ≡
    flat_node (codes "u") (codes "user" ∷ codes "post" ∷ []) (flat_leaf (codes "a") (codes "b") ∷ flat_leaf (codes "x") (codes "x") ∷ [])
    ∷ flat_node (codes "w") [] [] ∷ []
collected_once = simp (selections, canonical_texts)

-- subscription($f: Int!) { user_stream(batch_size: 5, cursor: {initial_value: {id: $f}}) { id } }
abbrev stream : Operation
stream = operation op.Subscription
    (record { name = codes "f"; kind = t.Named (codes "Int") true; default = None; directives = [] } ∷ [])
    (s.Field None (codes "user_stream")
    (pair (codes "batch_size") (v.Int (codes "5")) ∷ pair (codes "cursor") (v.Object (pair (codes "initial_value") (v.Object (pair (codes "id") (v.Var (codes "f")) ∷ [])) ∷ [])) ∷ [])
    [] (leaf (codes "id") ∷ []) ∷ [])

stream_text : canonical (flat_of (alone stream) no_members stream word.Subscription) ≡ codes "subscription user_stream:user_stream(batch_size:5,cursor:{initial_value:{id:_}}){id:id}"
stream_text = simp (selections, canonical_texts)

-- arguments are ordered by name, and a cursor keeps its form
-- { s(cursor: [{ordering: ASC, initial_value: {t: ""}}], b: [1, "x"]) }
abbrev listed_cursor : Operation
listed_cursor = query
    (s.Field None (codes "s")
    (pair (codes "cursor") (v.Many (v.Object (pair (codes "ordering") (v.Enum (codes "ASC")) ∷ pair (codes "initial_value") (v.Object (pair (codes "t") (v.Text []) ∷ [])) ∷ []) ∷ []))
    ∷ pair (codes "b") (v.Many (v.Int (codes "1") ∷ v.Null ∷ [])) ∷ [])
    [] [] ∷ [])

cursor_form : canonical (flat_of (alone listed_cursor) no_members listed_cursor word.Query) ≡ codes "query s:s(b:[1,null],cursor:[{ordering:ASC,initial_value:{t:_}}])"
cursor_form = simp (selections, canonical_texts)

-- ---- variables in conditions: a given null hides the default

abbrev on_variable : Operation
on_variable = operation op.Query
    (record { name = codes "w"; kind = t.Named (codes "Boolean") false; default = Some (v.Bool true); directives = [] } ∷ [])
    (leaf (codes "a") ∷ s.Field None (codes "b") [] (directive (codes "skip") (v.Var (codes "w")) ∷ []) [] ∷ [])

by_default : canonical (flat_of (alone on_variable) no_members on_variable word.Query) ≡ codes "query a:a"
by_default = simp (selections, canonical_texts)

by_value : canonical (flat_of (alone on_variable) (member (codes "w") (boolean false) no_members) on_variable word.Query) ≡ codes "query a:a b:b"
by_value = simp (selections, canonical_texts)

null_given : HasFault (alone on_variable) (member (codes "w") Data.null no_members) on_variable fault.NotBoolean
null_given = inl (simp (selections, canonical_texts))

-- ---- faults

-- query A{a} query B{a}
abbrev named_query : Text → Definition
named_query name = d.Operation op.Query (Some name) [] [] (leaf (codes "a") ∷ [])

abbrev two_queries : Document
two_queries = record { definitions = named_query (codes "A") ∷ named_query (codes "B") ∷ [] }

ambiguous : Flattens two_queries None no_members (Err fault.AmbiguousOperation)
ambiguous = not_chosen refl

no_operation : Flattens two_queries (Some (codes "C")) no_members (Err fault.NoOperation)
no_operation = not_chosen refl

-- mutation { user { id } }
abbrev mutation : Operation
mutation = operation op.Mutation [] (node (codes "user") (leaf (codes "id") ∷ []) ∷ [])

not_served : Flattens (alone mutation) None no_members (Err fault.NotServed)
not_served = refused refl (inl (refl, refl))

-- subscription { ...F }
abbrev spreads_F : Operation
spreads_F = operation op.Subscription [] (s.Spread (codes "F") [] ∷ [])

unknown : Flattens (alone spreads_F) None no_members (Err fault.UnknownFragment)
unknown = refused refl (inr ((λ e. cc), inl (inl (simp selections), refl)))

-- { ...F } fragment F on user { ...F }
abbrev cyclic : Operation
cyclic = query (s.Spread (codes "F") [] ∷ [])

abbrev own_spread : Fragment
own_spread = record { name = codes "F"; on = codes "user"; directives = []; select = s.Spread (codes "F") [] ∷ [] }

cycle : HasFault (document cyclic (d.Fragment (codes "F") (codes "user") [] (s.Spread (codes "F") [] ∷ []) ∷ [])) no_members cyclic fault.FragmentCycle
cycle = (own_spread, spread_there (codes "F") (simp selections) refl, spread_there (codes "F") (simp selections) refl)

-- { a @defer }
abbrev deferred : Operation
deferred = query (s.Field None (codes "a") [] (record { name = codes "defer"; args = [] } ∷ []) [] ∷ [])

no_directive : HasFault (alone deferred) no_members deferred fault.NoDirective
no_directive = inr (inl (simp selections))

-- { a @skip(if: 1) }
abbrev skipped_by_one : Operation
skipped_by_one = query (s.Field None (codes "a") [] (directive (codes "skip") (v.Int (codes "1")) ∷ []) [] ∷ [])

not_boolean : HasFault (alone skipped_by_one) no_members skipped_by_one fault.NotBoolean
not_boolean = inl (simp (selections, canonical_texts))

-- { a: b a: c }
abbrev conflicting : Operation
conflicting = query (s.Field (Some (codes "a")) (codes "b") [] [] [] ∷ s.Field (Some (codes "a")) (codes "c") [] [] [] ∷ [])

another_name : codes "b" ≢ codes "c"
another_name e = let h : ◌≡◌ {A = ℕ} 98 99 = ap (λ (name : Text). slice_index name 0) e in omega (arith, h)

conflict : HasFault (alone conflicting) no_members conflicting fault.Conflict
conflict = inr (simp selections (inl (inl (inl (inl another_name)))))

-- a chain of 13 levels
abbrev chain : ℕ → List Selection
chain ℕ.zero = []
chain (ℕ.suc n) = node (codes "a") (chain n) ∷ []

too_large : HasFault (alone (query (chain 13))) no_members (query (chain 13)) fault.TooLarge
too_large = simp (selections, canonical_texts)

twelve_levels : canonical (flat_of (alone (query (chain 12))) no_members (query (chain 12)) word.Query) ≡ codes "query a:a{a:a{a:a{a:a{a:a{a:a{a:a{a:a{a:a{a:a{a:a{a:a}}}}}}}}}}}"
twelve_levels = simp (selections, canonical_texts)
