-- What holds of streams. This project's own.
use Rattle.std.specs.Prelude.{◌≡◌, ℕ, ◌≤◌, Bool, true, false, not, ◌&&◌, ◌||◌, ◌==◌, List, [], ◌∷◌, ◌++◌, map, filter, length, drop, Option, Some, None, Result, Ok, Err, IsTrue}
use Rattle.std.specs.List.{list_all, list_any}
use Rattle.std.specs.Str.{bytes_eq}
use Rattle.scalar_val.specs.declared.val.Val.{Val}
use Rattle.scalar_val.specs.declared.val.Val.TheVariants as val
use Rattle.data_model.specs.declared.catalog.TableDef.{TableDef}
use Rattle.data_model.specs.declared.transaction.Reason.{Reason}
use Rattle.data_model.specs.declared.transaction.TxFault.{TxFault}
use Rattle.data_model.specs.declared.transaction.TxCell.{TxCell}
use Rattle.data_model.specs.declared.transaction.TxChange.{TxChange}
use Rattle.data_model.specs.declared.transaction.TxChange.TheVariants.{Insert, Update, Delete}
use Rattle.scalar_val.specs.Values.{cell}
use Rattle.data_model.specs.Rows.{Row, Rows, Database}
use Rattle.data_model.specs.Transactions.{row_given, rows_at, apply, after_or_same, change, snapshot}
use Rattle.role_model.specs.declared.metadata.Metadata.{Metadata}
use Rattle.role_model.specs.Roles.{View, table_at}
use Rattle.request_model.specs.declared.document.GPair.{GPair}
use Rattle.request_model.specs.declared.flat.FlatField.{FlatField}
use Rattle.request_model.specs.declared.flat.FlatField.TheOpen.{FlatField-F}
use Rattle.request_model.specs.declared.flat.FlatField.TheViews.{out-FlatField}
use Rattle.request_model.specs.Strings.{Text}
use Rattle.scalar_val.specs.Ordered.{ordered}
use Rattle.scalar_val.specs.Joined.{in_brackets}
use Rattle.query_model.specs.Names.{Root, RowsOf, RowOf, StreamOf, NoRoot, initial_column, descends, type_name}
use Rattle.query_model.specs.Queries.{Query, root_of, view_of}
use Rattle.query_model.specs.Admission.{Admitted}
use Rattle.plan_model.specs.Taken.{taken, rows_cmp, along, is_beyond}
use Rattle.plan_model.specs.Outcomes.{object_text, payload_text, Outcome, last_row}
use Rattle.query_model.specs.Results.{is_asked, is_permitted, stream_wanted, pair_of, result}
use Rattle.query_model.specs.AdmissionLaws.{IsAdmitted}

-- the table, the column and the direction of a stream, and its arguments
pub record Stream : Type 0 where
  pub table : ℕ
  pub column : ℕ
  pub descending : Bool
  pub args : List GPair

abbrev pub stream_by : View → Root → List GPair → Option Stream
stream_by v (StreamOf table) args = Some (record {
  table = table;
  column = initial_column v table args;
  descending = descends args;
  args = args;
})
stream_by v (RowsOf table) args = None
stream_by v (RowOf table) args = None
stream_by v NoRoot args = None

abbrev pub stream_in : Metadata → Query → List FlatField → Option Stream
stream_in m q (f ∷ []) = stream_by (view_of m q) (root_of (view_of m q) q.selection.kind f) (out-FlatField f).args
stream_in m q [] = None
stream_in m q (f ∷ g ∷ fs) = None

abbrev pub stream_of : Metadata → Query → Option Stream
stream_of m q = stream_in m q q.selection.fields

-- the rows that a stream gives beyond a cursor
abbrev pub next_rows : Metadata → Query → Stream → Val → Database → Rows
next_rows m q s cursor db = taken db (stream_wanted m q cursor s.table s.args)

-- the value in the last row that is sent, or the cursor as it was
abbrev pub cursor_after : Stream → Val → Rows → Val
cursor_after s cursor [] = cursor
cursor_after s cursor (r ∷ rs) = cell (last_row (r ∷ rs)) s.column

-- ---- what is sent of those rows

-- the objects of rows as a list, under the root's key
abbrev pub rows_text : Metadata → Query → Stream → FlatField-F FlatField → Database → Rows → Text
rows_text m q s f db rows =
    payload_text f.key (in_brackets (map (object_text (map (pair_of m q db) f.fields) s.table) rows))

-- the value in the last row, and null where there is none
abbrev pub last_sent : Stream → Rows → Val
last_sent s [] = val.Null
last_sent s (r ∷ rs) = cell (last_row (r ∷ rs)) s.column

-- an outcome sends these rows and nothing else, and tells the cursor that comes after them
pub record Sends (m : Metadata) (q : Query) (s : Stream) (f : FlatField-F FlatField) (db : Database)
    (sent : Rows) (o : Outcome) : Type 0 where
  pub text : o.text ≡ rows_text m q s f db sent
  pub rows : o.rows ≡ length sent
  pub last : o.last ≡ last_sent s sent

-- the result of a stream, whose root is the field f, sends the rows that come beyond its cursor
abbrev pub StreamsSendNextRows : Type 0
StreamsSendNextRows = (m : Metadata) (q : Query) (f : FlatField) → q.selection.fields ≡ f ∷ [] →
    (s : Stream) → stream_of m q ≡ Some s → (cursor : Val) (db : Database) →
    Sends m q s (out-FlatField f) db (next_rows m q s cursor db) (result m q cursor db)

-- ---- all that it sends

module _ (m : Metadata) (q : Query) (s : Stream) (txs : List (List TxChange)) where
  abbrev pub database_at : ℕ → Database
  database_at version = snapshot m.catalog txs version

  -- the rows that are sent at these versions one after the other, and the cursor after that
  abbrev pub streamed : List ℕ → Val → Rows
  streamed [] cursor = []
  streamed (v ∷ vs) cursor =
      let sent = next_rows m q s cursor (database_at v) in
      sent ++ streamed vs (cursor_after s cursor sent)

  abbrev pub cursor_at_end : List ℕ → Val → Val
  cursor_at_end [] cursor = cursor
  cursor_at_end (v ∷ vs) cursor = cursor_at_end vs (cursor_after s cursor (next_rows m q s cursor (database_at v)))

  -- all matching rows of the last snapshot beyond the first cursor and not beyond the second, in the stream's order
  abbrev pub is_passed : Val → Val → Row → Bool
  is_passed from to row =
      is_asked m q s.table s.args row && is_permitted m q s.table row
      && is_beyond s.descending from (cell row s.column) && not (is_beyond s.descending to (cell row s.column))

  abbrev pub passed : Val → Val → Rows
  passed from to =
      ordered (rows_cmp (along s.column s.descending))
      (filter (is_passed from to) (rows_at (database_at (length txs)) s.table))

-- none is below one before it
abbrev pub NeverFall : ℕ → List ℕ → Type 0
NeverFall least [] = Unit {0}
NeverFall least (v ∷ vs) = (least ≤ v) × NeverFall v vs

abbrev pub AllUpTo : ℕ → List ℕ → Type 0
AllUpTo most [] = Unit {0}
AllUpTo most (v ∷ vs) = (v ≤ most) × AllUpTo most vs

abbrev pub is_whole_key : ℕ → List ℕ → Bool
is_whole_key column [] = false
is_whole_key column (c ∷ []) = c == column
is_whole_key column (c ∷ d ∷ cs) = false

-- no two rows have one value in the column: it is `unique`, or the whole key
abbrev pub is_unique : Stream → Option TableDef → Bool
is_unique s (Some t) = list_any (λ column. column == s.column) t.unique || is_whole_key s.column t.key
is_unique s None = false

abbrev pub after_change : Database → Result Database Reason → Database
after_change before (Ok after) = after
after_change before (Err reason) = before

abbrev pub is_refused : Result Database TxFault → Bool
is_refused (Ok after) = false
is_refused (Err fault) = true

module _ (m : Metadata) (q : Query) (s : Stream) where
  abbrev pub stream_table : Text
  stream_table = type_name (view_of m q) s.table

  abbrev pub inserted_value : Option TableDef → List TxCell → Val
  inserted_value (Some t) row = cell (row_given t row) s.column
  inserted_value None row = val.Null

  -- a change leaves the stream's table alone, or inserts a value beyond all that are present
  abbrev pub appends : Database → TxChange → Bool
  appends db (Insert name row) =
      not (bytes_eq name stream_table)
      || list_all (λ r. is_beyond s.descending (cell r s.column) (inserted_value (table_at (view_of m q) s.table) row))
      (rows_at db s.table)
  appends db (Update name key set) = not (bytes_eq name stream_table)
  appends db (Delete name key) = not (bytes_eq name stream_table)

  abbrev pub all_append : Database → List TxChange → Bool
  all_append db [] = true
  all_append db (c ∷ cs) = appends db c && all_append (after_change db (change m.catalog db c)) cs

  -- the changes of each transaction do; a refused one changes nothing
  abbrev pub transactions_append : Database → List (List TxChange) → Bool
  transactions_append db [] = true
  transactions_append db (tx ∷ txs) =
      (is_refused (apply m.catalog db tx) || all_append db tx)
      && transactions_append (after_or_same db (apply m.catalog db tx)) txs

-- What a stream sends exactly once: from the version at which it was asked for, its column is unique and its table only
-- grows, beyond every value that is present.
pub record Appended (m : Metadata) (q : Query) (s : Stream) (txs : List (List TxChange)) (since : ℕ) : Type 0 where
  pub unique : IsTrue (is_unique s (table_at (view_of m q) s.table))
  pub grows : IsTrue (transactions_append m q s (snapshot m.catalog txs since) (drop since txs))

-- The rows that a stream sends at versions that never fall, from its initial cursor on, are the matching rows beyond
-- the initial value and not beyond the cursor that it has come to, each once and in order.
abbrev pub StreamsSendOnce : Type 0
StreamsSendOnce = (m : Metadata) (a : Admitted) → IsAdmitted m a → (s : Stream) → stream_of m a.query ≡ Some s →
    (txs : List (List TxChange)) (since : ℕ) (versions : List ℕ) →
    since ≤ length txs → NeverFall since versions → AllUpTo (length txs) versions → Appended m a.query s txs since →
    streamed m a.query s txs versions a.cursor ≡
    passed m a.query s txs a.cursor (cursor_at_end m a.query s txs versions a.cursor)
