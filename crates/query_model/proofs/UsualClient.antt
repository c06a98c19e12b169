-- A usual client, from its document on: fragments, a default, a directive by a variable, relationships both ways.
use Rattle.std.proofs.Common.{◌≡◌, List, [], ◌∷◌, Some, None, Ok, true, false}
use Rattle.std.specs.Prelude.{codes}
use Rattle.std.specs.Fmt.{digits}
use Rattle.json.specs.Print.{escape_byte}
use Rattle.serde_json.specs.Data.{Members, boolean, no_members, member}
use Rattle.scalar_val.specs.declared.val.Kind.{Kind}
use Rattle.scalar_val.specs.declared.val.Kind.TheVariants as kind
use Rattle.scalar_val.specs.declared.val.Val.TheVariants as val
use Rattle.data_model.specs.Rows.{Database, Rows}
use Rattle.plan_model.specs.declared.filter.Slot.{Slot}
use Rattle.plan_model.specs.declared.filter.Slot.TheVariants.{One}
use Rattle.plan_model.proofs.Truths.{truths}
use Rattle.request_model.specs.declared.document.GValue.TheVariants as v
use Rattle.request_model.specs.declared.document.VarDef.{VarDef}
use Rattle.request_model.specs.declared.document.TypeRef.TheVariants as type
use Rattle.request_model.specs.declared.document.Selection.{Selection}
use Rattle.request_model.specs.declared.document.Selection.TheVariants as s
use Rattle.request_model.specs.declared.document.OpWord.TheVariants as op
use Rattle.request_model.specs.declared.document.Definition.TheVariants as d
use Rattle.request_model.specs.declared.document.Document.{Document}
use Rattle.request_model.specs.declared.flat.FlatField.TheViews.{roll-FlatField}
use Rattle.request_model.specs.declared.flat.Flat.{Flat}
use Rattle.scalar_val.specs.declared.word.Word.TheVariants as word
use Rattle.request_model.specs.Strings.{Text}
use Rattle.request_model.specs.Selection.{Operation, flat_of}
use Rattle.request_model.specs.Canonical.{canonical}
use Rattle.request_model.proofs.SelectionRules.{selections, canonical_texts}
use Rattle.query_model.specs.declared.kind.SubKind.TheVariants as sub
use Rattle.query_model.specs.declared.variable.Variable.{Variable}
use Rattle.query_model.specs.Queries.{Query, binding_of}
use Rattle.query_model.specs.Admission.{admitted}
use Rattle.query_model.specs.Results.{result}
use Rattle.query_model.proofs.QueryRules.{queries}
use Rattle.query_model.proofs.Samples.{posts, reader_with, leaf, node, pair, one, order_by, int, text, post}

abbrev plain : Text → Selection
plain name = s.Field None name [] [] []

abbrev variable : Text → Kind → Slot → Variable
variable name k value = record { name = name; type_ = record { kind = k; listed = false; strict = false; strict_item = false }; value = value }

-- $n: Int = 2, $withPosts: Boolean!
abbrev declared : List VarDef
declared =
    record { name = codes "n"; kind = type.Named (codes "Int") false; default = Some (v.Int (codes "2")); directives = [] }
    ∷ record { name = codes "withPosts"; kind = type.Named (codes "Boolean") true; default = None; directives = [] } ∷ []

-- subscription Feed(..) { user(order_by: [{id: asc}], limit: $n) { ...U __typename } }
abbrev feed : Operation
feed = record {
  word = op.Subscription;
  name = Some (codes "Feed");
  vars = declared;
  directives = [];
  select = s.Field None (codes "user") (pair (codes "order_by") (v.Many (one (codes "id") (v.Enum (codes "asc")) ∷ [])) ∷ pair (codes "limit") (v.Var (codes "n")) ∷ []) []
      (s.Spread (codes "U") [] ∷ plain (codes "__typename") ∷ []) ∷ [];
}

-- fragment U on user { id name posts(order_by: {id: desc}) @include(if: $withPosts) { title author { name __typename } } }
abbrev document : Document
document = record {
  definitions =
      d.Operation feed.word feed.name feed.vars feed.directives feed.select
      ∷ d.Fragment (codes "U") (codes "user") []
      (plain (codes "id") ∷ plain (codes "name")
      ∷ s.Field None (codes "posts") (order_by (codes "id") (codes "desc") ∷ []) (record { name = codes "include"; args = pair (codes "if") (v.Var (codes "withPosts")) ∷ [] } ∷ [])
      (plain (codes "title") ∷ s.Field None (codes "author") [] [] (plain (codes "name") ∷ plain (codes "__typename") ∷ []) ∷ [])
      ∷ [])
      ∷ [];
}

abbrev given : Members
given = member (codes "withPosts") (boolean true) no_members

abbrev feed_flat : Flat
feed_flat = record {
  kind = word.Subscription;
  vars = declared;
  conditions = [];
  fields =
      roll-FlatField (record {
        key = codes "user";
        name = codes "user";
        nested = true;
        conditions = codes "user" ∷ [];
        args = pair (codes "order_by") (v.Many (one (codes "id") (v.Enum (codes "asc")) ∷ [])) ∷ pair (codes "limit") (v.Var (codes "n")) ∷ [];
        fields = leaf (codes "id") ∷ leaf (codes "name")
            ∷ node (codes "posts") (order_by (codes "id") (codes "desc") ∷ []) (leaf (codes "title") ∷ node (codes "author") [] (leaf (codes "name") ∷ leaf (codes "__typename") ∷ []) ∷ [])
            ∷ leaf (codes "__typename") ∷ [];
      })
      ∷ [];
}

flattened : flat_of document given feed word.Subscription ≡ feed_flat
flattened = simp (selections, canonical_texts)

feed_text : canonical feed_flat ≡
    codes "subscription user:user(limit:$n,order_by:[{id:asc}]){id:id name:name posts:posts(order_by:{id:desc}){title:title author:author{name:name __typename:__typename}} __typename:__typename}"
feed_text = simp canonical_texts

abbrev feed_query : Query
feed_query = record {
  kind = sub.Live;
  role = codes "reader";
  selection = feed_flat;
  variables = variable (codes "n") kind.Int (One (int 2)) ∷ record { name = codes "withPosts"; type_ = record { kind = kind.Bool; listed = false; strict = true; strict_item = false }; value = One (val.Bool true) } ∷ [];
  session = record { slot = record { name = codes "x-hasura-user-id"; kind = kind.Int }; value = int 1 } ∷ [];
}

feed_admitted : admitted posts (reader_with (codes "1")) given feed_flat ≡ Ok (record { query = feed_query; cursor = val.Null })
feed_admitted = simp (queries, canonical_texts)

-- the variable of the directive isn't in it
feed_binding : binding_of feed_query val.Null ≡ record { vars = One (int 2) ∷ []; session = int 1 ∷ []; cursor = val.Null }
feed_binding = simp (queries, canonical_texts)

abbrev three_users : Rows
three_users = (int 1 ∷ text (codes "Ann") ∷ []) ∷ (int 2 ∷ text (codes "Bo") ∷ []) ∷ (int 3 ∷ text (codes "Cy") ∷ []) ∷ []

abbrev without_posts : Database
without_posts = three_users ∷ [] ∷ []

abbrev with_post : Database
with_post = three_users ∷ (post 10 (int 1) (codes "Hi") ∷ []) ∷ []

abbrev with_other_post : Database
with_other_post = three_users ∷ (post 10 (int 1) (codes "Hi") ∷ post 11 (int 2) (codes "Ho") ∷ []) ∷ []

first_result : (result posts feed_query val.Null without_posts).text ≡
    codes "{\"data\":{\"user\":[{\"id\":1,\"name\":\"Ann\",\"posts\":[],\"__typename\":\"user\"},{\"id\":2,\"name\":\"Bo\",\"posts\":[],\"__typename\":\"user\"}]}}"
unfolding digits escape_byte
first_result = simp (queries, truths, canonical_texts)

second_result : (result posts feed_query val.Null with_post).text ≡
    codes "{\"data\":{\"user\":[{\"id\":1,\"name\":\"Ann\",\"posts\":[{\"title\":\"Hi\",\"author\":{\"name\":\"Ann\",\"__typename\":\"user\"}}],\"__typename\":\"user\"},{\"id\":2,\"name\":\"Bo\",\"posts\":[],\"__typename\":\"user\"}]}}"
unfolding digits escape_byte
second_result = simp (queries, truths, canonical_texts)

-- a post of another author isn't shown, so nothing changes
third_result : (result posts feed_query val.Null with_other_post).text ≡
    codes "{\"data\":{\"user\":[{\"id\":1,\"name\":\"Ann\",\"posts\":[{\"title\":\"Hi\",\"author\":{\"name\":\"Ann\",\"__typename\":\"user\"}}],\"__typename\":\"user\"},{\"id\":2,\"name\":\"Bo\",\"posts\":[],\"__typename\":\"user\"}]}}"
unfolding digits escape_byte
third_result = simp (queries, truths, canonical_texts)
