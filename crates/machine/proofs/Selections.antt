-- The selections of the worked runs: what they are admitted as, their texts, and the variables in these. And a first
-- subscription.
use Rattle.std.proofs.Common.{◌≡◌, ℕ, List, [], ◌∷◌, None, Ok, true, false, pos}
use Rattle.std.specs.Prelude.{codes}
use Rattle.std.specs.Fmt.{digits}
use Rattle.serde_json.specs.Data.{number, unsigned, Members, no_members, member}
use Rattle.scalar_val.specs.declared.val.Kind.TheVariants as kind
use Rattle.scalar_val.specs.declared.val.Val.TheVariants as val
use Rattle.scalar_val.specs.declared.word.Word.TheVariants as word
use Rattle.plan_model.specs.declared.filter.Slot.TheVariants.{One}
use Rattle.request_model.specs.declared.document.GValue.TheVariants as v
use Rattle.request_model.specs.declared.document.TypeRef.TheVariants as type
use Rattle.request_model.specs.declared.document.VarDef.{VarDef}
use Rattle.request_model.specs.declared.flat.FlatField.{FlatField}
use Rattle.request_model.specs.declared.flat.Flat.{Flat}
use Rattle.request_model.specs.Canonical.{field_text}
use Rattle.request_model.specs.Strings.{Text}
use Rattle.request_model.proofs.SelectionRules.{canonical_texts}
use Rattle.query_model.specs.declared.kind.SubKind.TheVariants as sub
use Rattle.query_model.specs.declared.variable.Variable.{Variable}
use Rattle.query_model.specs.Admission.{admitted}
use Rattle.query_model.specs.Queries.{Query, text_variables}
use Rattle.query_model.proofs.QueryRules.{queries}
use Rattle.machine.specs.State.{State, Subscription, opening, Event, Connect}
use Rattle.machine.proofs.Samples.{
  users,
  admin,
  pair,
  leaf,
  node,
  subscription,
  user_field,
  all_users,
  live,
  init,
  subscribes,
  subscribed,
  at_rest,
  connection,
  ack,
  Leads,
}

pub users_admitted : admitted users admin no_members all_users
    ≡ Ok (record { query = live all_users; cursor = val.Null })
users_admitted = simp queries

pub users_text : field_text user_field ≡ codes "user:user{id:id name:name}"
users_text = simp canonical_texts

pub users_variables : text_variables all_users ≡ []
users_variables = simp canonical_texts

pub ruleset users_polled = (users_text, users_variables)

-- ---- a query that is answered once

-- user { id }
abbrev pub ids : FlatField
ids = node (codes "user") [] (leaf (codes "id") ∷ [])

-- query { user { id } }
abbrev pub all_ids : Flat
all_ids = record { kind = word.Query; vars = []; conditions = []; fields = ids ∷ [] }

abbrev pub once : Query
once = record { kind = sub.Once; role = codes "admin"; selection = all_ids; variables = []; session = [] }

pub once_admitted : admitted users admin no_members all_ids ≡ Ok (record { query = once; cursor = val.Null })
once_admitted = simp queries

pub ids_text : field_text ids ≡ codes "user:user{id:id}"
ids_text = simp canonical_texts

pub ids_variables : text_variables all_ids ≡ []
ids_variables = simp canonical_texts

pub ruleset ids_polled = (ids_text, ids_variables)

-- ---- a stream

-- user_stream(batch_size: 2, cursor: {initial_value: {id: $f}}) { id }
abbrev pub stream_field : FlatField
stream_field = node (codes "user_stream")
    (pair (codes "batch_size") (v.Int (codes "2"))
    ∷ pair (codes "cursor")
    (v.Object (pair (codes "initial_value") (v.Object (pair (codes "id") (v.Var (codes "f")) ∷ [])) ∷ [])) ∷ [])
    (leaf (codes "id") ∷ [])

abbrev pub whole : Text → VarDef
whole name = record { name = name; kind = type.Named (codes "Int") true; default = None; directives = [] }

-- subscription($f: Int!) { .. }
abbrev pub users_from : Flat
users_from = subscription (whole (codes "f") ∷ []) stream_field

abbrev pub given : Text → ℕ → Variable
given name n = record {
  name = name;
  type_ = record { kind = kind.Int; listed = false; strict = true; strict_item = false };
  value = One (val.Int (pos n));
}

abbrev pub stream_from : ℕ → Query
stream_from n = record {
  kind = sub.Stream;
  role = codes "admin";
  selection = users_from;
  variables = given (codes "f") n ∷ [];
  session = [];
}

abbrev pub values : Text → ℕ → Members
values name n = member name (number (unsigned n)) no_members

pub first_stream : admitted users admin (values (codes "f") 0) users_from
    ≡ Ok (record { query = stream_from 0; cursor = val.Int (pos 0) })
first_stream = simp (queries, canonical_texts)

pub second_stream : admitted users admin (values (codes "f") 2) users_from
    ≡ Ok (record { query = stream_from 2; cursor = val.Int (pos 2) })
second_stream = simp (queries, canonical_texts)

pub stream_text : field_text stream_field
    ≡ codes "user_stream:user_stream(batch_size:2,cursor:{initial_value:{id:_}}){id:id}"
stream_text = simp canonical_texts

-- the variable of the initial value stands in the text no more than its value does
pub stream_variables : text_variables users_from ≡ []
stream_variables = simp (queries, canonical_texts)

pub ruleset streams_polled = (stream_text, stream_variables)

-- ---- a row by its key

-- user_by_pk(id: $i) { id }
abbrev pub by_key : FlatField
by_key = node (codes "user_by_pk") (pair (codes "id") (v.Var (codes "i")) ∷ []) (leaf (codes "id") ∷ [])

-- subscription($i: Int!) { .. }
abbrev pub user_of : Flat
user_of = subscription (whole (codes "i") ∷ []) by_key

abbrev pub with_key : ℕ → Query
with_key n = record {
  kind = sub.Live;
  role = codes "admin";
  selection = user_of;
  variables = given (codes "i") n ∷ [];
  session = [];
}

pub key_admitted : admitted users admin (values (codes "i") 1) user_of
    ≡ Ok (record { query = with_key 1; cursor = val.Null })
key_admitted = simp (queries, canonical_texts)

pub key_text : field_text by_key ≡ codes "user_by_pk:user_by_pk(id:$i){id:id}"
key_text = simp canonical_texts

pub key_variables : text_variables user_of ≡ codes "i" ∷ []
key_variables = simp (queries, canonical_texts)

pub ruleset keys_polled = (key_text, key_variables)

-- ---- a first subscription

abbrev pub start : List Event
start = Connect 1 ∷ init 1 ∷ subscribes 1 (codes "a") all_users ∷ []

abbrev pub first : Subscription
first = subscribed 1 1 (codes "a") (live all_users) val.Null

abbrev pub asked : State
asked = at_rest [] (connection 1 (ack ∷ []) ∷ []) (first ∷ []) 0

pub started : Leads users opening start asked (codes "open 1\nrecv 1\n> 1 {\"type\":\"connection_ack\"}\nrecv 1\n")
unfolding digits
started = record { is = simp users_admitted }
