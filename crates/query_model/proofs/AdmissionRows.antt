-- Worked rows of refusals.
use Rattle.std.proofs.Common.{◌≡◌, ◌≢◌, inl, inr, arith, List, [], ◌∷◌, map, None, Result, Err, true, refl}
use Rattle.std.specs.Prelude.{codes}
use Rattle.std.specs.Fmt.{digits}
use Rattle.serde_json.specs.Data.{no_members}
use Rattle.request_model.specs.declared.document.GValue.{GValue}
use Rattle.request_model.specs.declared.document.GValue.TheVariants as v
use Rattle.request_model.specs.declared.document.GPair.{GPair}
use Rattle.request_model.specs.declared.document.TypeRef.TheVariants as type
use Rattle.request_model.specs.declared.flat.FlatField.{FlatField}
use Rattle.request_model.specs.declared.flat.Flat.{Flat}
use Rattle.scalar_val.specs.declared.word.Word.TheVariants as word
use Rattle.request_model.specs.Strings.{Text}
use Rattle.request_model.specs.declared.document.Selection.TheVariants as s
use Rattle.request_model.specs.declared.document.OpWord.TheVariants as op
use Rattle.request_model.specs.declared.document.Definition.TheVariants as d
use Rattle.request_model.specs.declared.document.Document.{Document}
use Rattle.request_model.specs.Lexemes.{lexemes, front}
use Rattle.request_model.specs.Grammar.{no_more, no_arguments, plain, field, spread, no_selections, a_set, no_set, some_set, no_name, no_variables, mutation, subscription as subscription_word, operation, a_document}
use Rattle.request_model.specs.Place.{Reads}
use Rattle.request_model.specs.Selection.{refused as chosen_refused}
use Rattle.request_model.proofs.Worked.{missing_bracket}
use Rattle.request_model.proofs.SelectionRules.{selections, canonical_texts}
use Rattle.query_model.specs.declared.fault.FaultKind.{FaultKind}
use Rattle.query_model.specs.declared.fault.FaultKind.TheVariants as fault
use Rattle.query_model.specs.declared.fault.QueryFault.{QueryFault}
use Rattle.query_model.specs.Refusals.{refusal, message_of}
use Rattle.query_model.specs.Admission.{Admitted, admitted, Admits, unread, unselected}
use Rattle.query_model.proofs.QueryRules.{queries}
use Rattle.query_model.proofs.Samples.{users, posts, admin, session, reader_with, leaf, node, subscription, pair, one}

abbrev refuses : FaultKind → Text → Result Admitted QueryFault
refuses k name = Err (refusal k name)

abbrev id : List FlatField
id = leaf (codes "id") ∷ []

-- subscription { usr { id } }
no_field : admitted users admin no_members (subscription [] (node (codes "usr") [] id)) ≡ refuses fault.NoField (codes "usr")
no_field = simp (queries, canonical_texts)

-- subscription { user(limt: 1) { id } }
no_argument : admitted users admin no_members (subscription [] (node (codes "user") (pair (codes "limt") (v.Int (codes "1")) ∷ []) id)) ≡ refuses fault.NoArgument (codes "limt")
no_argument = simp (queries, canonical_texts)

-- subscription { user(limit: -1) { id } }
negative_limit : admitted users admin no_members (subscription [] (node (codes "user") (pair (codes "limit") (v.Int (codes "-1")) ∷ []) id)) ≡ refuses fault.WrongType (codes "limit")
negative_limit = simp (queries, canonical_texts)

-- subscription { user(where: {id: {_eq: null}}) { id } }
null_operand : admitted users admin no_members (subscription [] (node (codes "user") (pair (codes "where") (one (codes "id") (one (codes "_eq") v.Null)) ∷ []) id)) ≡ refuses fault.NullOperand (codes "id")
null_operand = simp (queries, canonical_texts)

-- subscription($i: Int!) { user_by_pk(id: $i) { id } }, without variables
missing_variable : admitted users admin no_members
    (subscription (record { name = codes "i"; kind = type.Named (codes "Int") true; default = None; directives = [] } ∷ [])
    (node (codes "user_by_pk") (pair (codes "id") (v.Var (codes "i")) ∷ []) id)) ≡ refuses fault.MissingVariable (codes "i")
missing_variable = simp (queries, canonical_texts)

-- subscription { user_stream(batch_size: 1, cursor: {initial_value: {name: "a"}}) { id } }
bad_cursor : admitted users admin no_members
    (subscription [] (node (codes "user_stream")
    (pair (codes "batch_size") (v.Int (codes "1")) ∷ pair (codes "cursor") (one (codes "initial_value") (one (codes "name") (v.Text (codes "a")))) ∷ []) id)) ≡ refuses fault.BadCursor (codes "cursor")
bad_cursor = simp (queries, canonical_texts)

-- subscription { user { id } user_by_pk(id: 1) { id } }
two_roots : admitted users admin no_members (record {
  kind = word.Subscription;
  vars = [];
  conditions = [];
  fields = node (codes "user") [] id ∷ node (codes "user_by_pk") (pair (codes "id") (v.Int (codes "1")) ∷ []) id ∷ [];
}) ≡ refuses fault.NotOneRoot []
two_roots = refl

-- subscription { post { id title } }, by a reader without a user id, and with one that is no number
abbrev all_posts : Flat
all_posts = subscription [] (node (codes "post") [] (leaf (codes "id") ∷ leaf (codes "title") ∷ []))

missing_session : admitted posts (session (codes "reader") []) no_members all_posts ≡ refuses fault.MissingSession (codes "x-hasura-user-id")
missing_session = simp (queries, canonical_texts)

bad_session : admitted posts (reader_with (codes "abc")) no_members all_posts ≡ refuses fault.BadSession (codes "x-hasura-user-id")
bad_session = simp (queries, canonical_texts)

-- subscription { post { note } }, by a reader, who doesn't see it
unseen_column : admitted posts (reader_with (codes "1")) no_members (subscription [] (node (codes "post") [] (leaf (codes "note") ∷ []))) ≡ refuses fault.NoField (codes "note")
unseen_column = simp (queries, canonical_texts)

-- ---- the walk's order, and forms of arguments

abbrev judged : List GPair → List FlatField → Result Admitted QueryFault
judged args fields = admitted posts admin no_members (subscription [] (node (codes "user") args fields))

-- a column with a selection, an object without one, an argument of a column
sub_selections : judged [] (node (codes "id") [] id ∷ []) ∷ judged [] (leaf (codes "posts") ∷ []) ∷ judged [] (node (codes "posts") (pair (codes "limit") (v.Enum (codes "x")) ∷ []) (leaf (codes "no") ∷ []) ∷ []) ∷ [] ≡
    refuses fault.WrongType (codes "id") ∷ refuses fault.WrongType (codes "posts") ∷ refuses fault.WrongType (codes "limit") ∷ []
sub_selections = simp (queries, canonical_texts)

-- order_by: [3, {nope: asc}], [{nope: asc}, 3] and {id: null}
orders : map (λ x. judged (pair (codes "order_by") x ∷ []) id)
    (v.Many (v.Int (codes "3") ∷ one (codes "nope") (v.Enum (codes "asc")) ∷ []) ∷ v.Many (one (codes "nope") (v.Enum (codes "asc")) ∷ v.Int (codes "3") ∷ []) ∷ one (codes "id") v.Null ∷ []) ≡
    refuses fault.WrongType (codes "order_by") ∷ refuses fault.NoArgument (codes "nope") ∷ refuses fault.WrongType (codes "id") ∷ []
orders = simp (queries, canonical_texts)

-- where: $v, {_and: null}, {_not: [{}]}, {id: null}, {id: {_eq: 1, _eq: 1}}, {id: {_in: [1, null]}}, {nope: {}} and {id: {_gt: "a"}}
abbrev conditions : List GValue
conditions =
    v.Var (codes "v")
    ∷ one (codes "_and") v.Null
    ∷ one (codes "_not") (v.Many (v.Object [] ∷ []))
    ∷ one (codes "id") v.Null
    ∷ one (codes "id") (v.Object (pair (codes "_eq") (v.Int (codes "1")) ∷ pair (codes "_eq") (v.Int (codes "1")) ∷ []))
    ∷ one (codes "id") (one (codes "_in") (v.Many (v.Int (codes "1") ∷ v.Null ∷ [])))
    ∷ one (codes "nope") (v.Object [])
    ∷ one (codes "id") (one (codes "_gt") (v.Text (codes "a")))
    ∷ []

wheres : map (λ x. judged (pair (codes "where") x ∷ []) id) conditions ≡
    refuses fault.WrongType (codes "where")
    ∷ refuses fault.WrongType (codes "_and")
    ∷ refuses fault.WrongType (codes "_not")
    ∷ refuses fault.WrongType (codes "id")
    ∷ refuses fault.WrongType (codes "id")
    ∷ refuses fault.NullOperand (codes "id")
    ∷ refuses fault.NoArgument (codes "nope")
    ∷ refuses fault.WrongType (codes "id")
    ∷ []
wheres = simp (queries, canonical_texts)

-- cursor: {initial_value: {id: null}, ordering: up}, {ordering: up, initial_value: {id: null}} and null
abbrev streamed : List GPair → Result Admitted QueryFault
streamed args = admitted users admin no_members (subscription [] (node (codes "user_stream") args id))

abbrev cursor_with : GValue → List GPair
cursor_with x = pair (codes "batch_size") (v.Int (codes "1")) ∷ pair (codes "cursor") x ∷ []

abbrev null_initial : GPair
null_initial = pair (codes "initial_value") (one (codes "id") v.Null)

abbrev up : GPair
up = pair (codes "ordering") (v.Enum (codes "up"))

cursors : map (λ x. streamed (cursor_with x)) (v.Object (null_initial ∷ up ∷ []) ∷ v.Object (up ∷ null_initial ∷ []) ∷ v.Null ∷ []) ≡
    refuses fault.NullOperand (codes "id") ∷ refuses fault.BadCursor (codes "cursor") ∷ refuses fault.BadCursor (codes "cursor") ∷ []
cursors = simp (queries, canonical_texts)

required : map streamed ([] ∷ (pair (codes "batch_size") v.Null ∷ []) ∷ (pair (codes "batch_size") (v.Int (codes "0")) ∷ []) ∷ []) ≡
    refuses fault.NoArgument (codes "batch_size") ∷ refuses fault.NullOperand (codes "batch_size") ∷ refuses fault.WrongType (codes "batch_size") ∷ []
required = simp (queries, canonical_texts)

-- ---- messages

messages : map message_of
    (record { kind = fault.Syntax; at = 27; name = [] } ∷ refusal fault.NoField (codes "usr") ∷ refusal fault.NotOneRoot [] ∷ refusal fault.MissingSession (codes "x-hasura-user-id") ∷ []) ≡
    codes "syntax error at byte 27" ∷ codes "no such field: usr" ∷ codes "one root field needed" ∷ codes "missing session variable: x-hasura-user-id" ∷ []
unfolding digits
messages = refl

-- ---- from texts

-- a bracket is missing
syntax : Admits users admin (codes "subscription { user { id } ") None no_members (Err (record { kind = fault.Syntax; at = 27; name = [] }))
syntax = unread missing_bracket

-- mutation { user { id } }
mutation_document : Document
mutation_document = record { definitions = d.Operation op.Mutation None [] [] (s.Field None (codes "user") [] [] (s.Field None (codes "id") [] [] [] ∷ []) ∷ []) ∷ [] }

mutation_read : Reads (codes "mutation { user { id } }") mutation_document
unfolding lexemes front mutation_document
mutation_read = record {
  fits = omega arith;
  good = refl;
  derives = (
    a_document (operation mutation no_name no_variables no_more
        (a_set (field plain no_arguments no_more (some_set (a_set (field plain no_arguments no_more no_set) no_selections))) no_selections)) no_more,
    (refl, (refl, (refl, (refl, (refl, (refl, (refl, tt))))))),
  );
}

not_served : Admits users admin (codes "mutation { user { id } }") None no_members (Err (refusal fault.NotServed []))
unfolding mutation_document
not_served = unselected mutation_read (chosen_refused refl (inl (refl, refl))) refl

-- subscription { ...F }
spread_document : Document
spread_document = record { definitions = d.Operation op.Subscription None [] [] (s.Spread (codes "F") [] ∷ []) ∷ [] }

fragment_name : codes "F" ≢ codes "on"
fragment_name e = cc

spread_read : Reads (codes "subscription { ...F }") spread_document
unfolding lexemes front spread_document
spread_read = record {
  fits = omega arith;
  good = refl;
  derives = (a_document (operation subscription_word no_name no_variables no_more (a_set (spread fragment_name no_more) no_selections)) no_more, (refl, (refl, (refl, (refl, (refl, tt))))));
}

unknown_fragment : Admits users admin (codes "subscription { ...F }") None no_members (Err (refusal fault.UnknownFragment []))
unfolding spread_document
unknown_fragment = unselected spread_read (chosen_refused refl (inr ((λ e. cc), inl (inl (simp selections), refl)))) refl
