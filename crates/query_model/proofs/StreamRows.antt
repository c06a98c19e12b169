-- A worked stream: batches of two over two commits.
use Rattle.std.proofs.Common.{◌≡◌, ℕ, List, [], ◌∷◌, map, Some, true, false, pos, refl}
use Rattle.std.specs.Prelude.{codes}
use Rattle.scalar_val.specs.declared.val.Val.TheVariants as val
use Rattle.data_model.specs.declared.transaction.TxChange.{TxChange}
use Rattle.data_model.specs.declared.transaction.TxChange.TheVariants.{Insert, Update}
use Rattle.data_model.specs.Rows.{Rows}
use Rattle.plan_model.proofs.Truths.{truths}
use Rattle.request_model.specs.declared.document.GValue.TheVariants as v
use Rattle.request_model.specs.declared.flat.Flat.{Flat}
use Rattle.request_model.proofs.SelectionRules.{canonical_texts}
use Rattle.query_model.specs.declared.kind.SubKind.TheVariants as sub
use Rattle.query_model.specs.Queries.{Query}
use Rattle.query_model.specs.StreamLaws.{Stream, stream_of, streamed, passed, cursor_at_end, transactions_append, is_unique}
use Rattle.query_model.proofs.QueryRules.{queries}
use Rattle.query_model.proofs.Samples.{users, user_table, leaf, node, subscription, pair, one, int}

abbrev insert_user : ℕ → TxChange
insert_user n = Insert (codes "user") (record { column = codes "id"; value = val.Big (pos n) } ∷ [])

abbrev commits : List (List TxChange)
commits = (insert_user 1 ∷ insert_user 2 ∷ insert_user 3 ∷ []) ∷ (insert_user 4 ∷ insert_user 6 ∷ []) ∷ []

-- subscription { user_stream(batch_size: 2, cursor: {initial_value: {id: 1}}) { id } }
abbrev by_two : Flat
by_two = subscription []
    (node (codes "user_stream") (pair (codes "batch_size") (v.Int (codes "2")) ∷ pair (codes "cursor") (one (codes "initial_value") (one (codes "id") (v.Int (codes "1")))) ∷ []) (leaf (codes "id") ∷ []))

abbrev query : Query
query = record { kind = sub.Stream; role = codes "admin"; selection = by_two; variables = []; session = [] }

abbrev its_stream : Stream
its_stream = record {
  table = 0;
  column = 0;
  descending = false;
  args = pair (codes "batch_size") (v.Int (codes "2")) ∷ pair (codes "cursor") (one (codes "initial_value") (one (codes "id") (v.Int (codes "1")))) ∷ [];
}

is_a_stream : stream_of users query ≡ Some its_stream
is_a_stream = simp (queries, canonical_texts)

abbrev users_of : List ℕ → Rows
users_of = map (λ n. int n ∷ val.Null ∷ [])

-- two rows of the first commit, nothing, and then those of the second
sent : streamed users query its_stream commits (1 ∷ 1 ∷ 2 ∷ []) (int 1) ≡ users_of (2 ∷ 3 ∷ 4 ∷ 6 ∷ [])
sent = simp (queries, truths, canonical_texts)

comes_to : cursor_at_end users query its_stream commits (1 ∷ 1 ∷ 2 ∷ []) (int 1) ≡ int 6
comes_to = simp (queries, truths, canonical_texts)

are_passed : passed users query its_stream commits (int 1) (int 6) ≡ users_of (2 ∷ 3 ∷ 4 ∷ 6 ∷ [])
are_passed = simp (queries, truths, canonical_texts)

-- the tables grow as the law wants, and not where a lower id comes later, or a user is changed
grows : transactions_append users query its_stream ([] ∷ []) commits ≡ true
grows = refl

falls_behind : transactions_append users query its_stream ([] ∷ []) ((insert_user 2 ∷ insert_user 1 ∷ []) ∷ []) ≡ false
falls_behind = refl

changes : transactions_append users query its_stream ([] ∷ []) ((insert_user 1 ∷ []) ∷ (Update (codes "user") (record { column = codes "id"; value = val.Big (pos 1) } ∷ []) [] ∷ []) ∷ []) ≡ false
changes = refl

unique : is_unique its_stream (Some user_table) ≡ true
unique = refl
