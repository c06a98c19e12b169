-- What streams are sent in whole runs. This project's own, after Hasura's streaming subscriptions.
use Rattle.std.specs.Prelude.{◌≡◌, ◌<◌, ℕ, Some, List, [], ◌∷◌, ◌++◌, length}
use Rattle.scalar_val.specs.declared.val.Val.{Val}
use Rattle.data_model.specs.Rows.{Rows}
use Rattle.data_model.specs.declared.transaction.TxChange.{TxChange}
use Rattle.data_model.specs.Transactions.{snapshot}
use Rattle.role_model.specs.declared.metadata.Metadata.{Metadata}
use Rattle.request_model.specs.declared.flat.FlatField.{FlatField}
use Rattle.request_model.specs.declared.flat.FlatField.TheOpen.{FlatField-F}
use Rattle.request_model.specs.declared.flat.FlatField.TheViews.{out-FlatField}
use Rattle.request_model.specs.Strings.{Text}
use Rattle.wire_model.specs.ServerMessages.{next_text}
use Rattle.query_model.specs.declared.kind.SubKind.TheVariants as kind
use Rattle.query_model.specs.Queries.{Query}
use Rattle.query_model.specs.StreamLaws.{
  Stream,
  stream_of,
  next_rows,
  rows_text,
  cursor_after,
  cursor_at_end,
  streamed,
  passed,
  Appended,
}
use Rattle.machine.specs.State.{Subscription, Event}
use Rattle.machine.specs.Batches.{subscription_at}
use Rattle.machine.specs.Run.{happens, run}
use Rattle.run_laws.specs.Laws.{told, versions, version_of}

-- rows are told in one text, and none where there are none
abbrev pub rows_told : List ℕ → Text → Rows → List (List ℕ)
rows_told id payload [] = []
rows_told id payload (r ∷ rs) = next_text id payload ∷ []

module _ (meta : Metadata) (q : Query) (s : Stream) (f : FlatField-F FlatField) (transactions : List (List TxChange))
    (id : List ℕ) where
  -- the texts of the rows that are sent at these versions one after the other
  abbrev pub streamed_texts : List ℕ → Val → List (List ℕ)
  streamed_texts [] cursor = []
  streamed_texts (v ∷ vs) cursor =
      let db = snapshot meta.catalog transactions v in
      let sent = next_rows meta q s cursor db in
      rows_told id (rows_text meta q s f db sent) sent ++ streamed_texts vs (cursor_after s cursor sent)

-- The course of a stream: as it began, at the event that made it a subscription, and as it stands after some events.
pub record Course (meta : Metadata) (before : List Event) (e : Event) (after : List Event) (number : ℕ) : Type 0 where
  pub new : length (run meta before).subscriptions < number
  pub first : Subscription
  pub began : subscription_at number (happens meta (run meta before) e).state.subscriptions ≡ Some first
  pub last : Subscription
  pub stands : subscription_at number (run meta (before ++ e ∷ after)).subscriptions ≡ Some last
  pub is_stream : last.query.kind ≡ kind.Stream
  pub root : FlatField
  pub root_is : last.query.selection.fields ≡ root ∷ []
  pub stream : Stream
  pub stream_is : stream_of meta last.query ≡ Some stream

-- A stream is told the rows beyond its cursor, one text at each version of a turn, and its cursor moves along them.
abbrev pub StreamsAreToldNextRows : Metadata → Type 0
StreamsAreToldNextRows meta =
    (before : List Event) (e : Event) (after : List Event) (number : ℕ) (c : Course meta before e after number) →
    (told meta (before ++ e ∷ after) number
    ≡ streamed_texts meta c.last.query c.stream (out-FlatField c.root) (run meta (before ++ e ∷ after)).transactions
    c.last.id (versions meta (before ++ e ∷ after) number) c.first.cursor)
    × (c.last.cursor
    ≡ cursor_at_end meta c.last.query c.stream (run meta (before ++ e ∷ after)).transactions
    (versions meta (before ++ e ∷ after) number) c.first.cursor)

-- Where its column is unique and its table only grows from the subscribe on, beyond all values that are present, these
-- are all the matching rows beyond the cursor with which it began and not beyond that which it has come to, each once
-- and in order.
abbrev pub StreamsAreSentOnce : Metadata → Type 0
StreamsAreSentOnce meta =
    (before : List Event) (e : Event) (after : List Event) (number : ℕ) (c : Course meta before e after number) →
    Appended meta c.last.query c.stream (run meta (before ++ e ∷ after)).transactions (version_of (run meta before)) →
    streamed meta c.last.query c.stream (run meta (before ++ e ∷ after)).transactions
    (versions meta (before ++ e ∷ after) number) c.first.cursor
    ≡ passed meta c.last.query c.stream (run meta (before ++ e ∷ after)).transactions c.first.cursor c.last.cursor
