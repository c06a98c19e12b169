-- One change of a database with its reasons in their order, transactions, and snapshots. This project's own.
use Rattle.std.specs.Prelude.{ℕ, ◌+◌, Bool, not, ◌&&◌, Option, Some, None, List, [], ◌∷◌, ◌++◌, map, take, slice_get, slice_set, unwrap_or, length, is_none, Result, Ok, Err}
use Rattle.std.specs.Str.{bytes_eq}
use Rattle.std.specs.List.{filter_map, find, list_any, list_all, position_or_len}
use Rattle.scalar_val.specs.declared.val.Val.{Val}
use Rattle.scalar_val.specs.declared.val.Val.TheVariants as val
use Rattle.scalar_val.specs.Spellings.{fitted}
use Rattle.data_model.specs.declared.catalog.Column.{Column}
use Rattle.data_model.specs.declared.catalog.TableDef.{TableDef}
use Rattle.data_model.specs.declared.catalog.Catalog.{Catalog}
use Rattle.data_model.specs.declared.transaction.SetCell.{SetCell}
use Rattle.data_model.specs.declared.transaction.Reason.{Reason}
use Rattle.data_model.specs.declared.transaction.Reason.TheVariants as reason
use Rattle.data_model.specs.declared.transaction.TxFault.{TxFault}
use Rattle.data_model.specs.declared.transaction.TxCell.{TxCell}
use Rattle.data_model.specs.declared.transaction.TxChange.{TxChange}
use Rattle.data_model.specs.declared.transaction.TxChange.TheVariants.{Insert, Update, Delete}
use Rattle.scalar_val.specs.Values.{is_null}
use Rattle.data_model.specs.Rows.{Row, Rows, Database, no_rows, inserted, updated, deleted, Test, test, first_reason, insert_tests, update_tests, delete_tests}

abbrev pub is_column : List ℕ → Column → Bool
is_column name column = bytes_eq column.name name

abbrev pub is_cell_of : Column → TxCell → Bool
is_cell_of column c = bytes_eq c.column column.name

-- the value that a cell gives its column: null, or what the JSON scalar is in the column's kind
abbrev pub value_in : Column → Val → Val
value_in column value = unwrap_or (fitted column.kind value) val.Null

abbrev pub value_given : Column → Option TxCell → Val
value_given column (Some c) = value_in column c.value
value_given column None = val.Null

-- null where no cell names the column
abbrev pub given : List TxCell → Column → Val
given cells column = value_given column (find (is_cell_of column) cells)

abbrev pub row_given : TableDef → List TxCell → Row
row_given table cells = map (given cells) table.columns

abbrev pub key_columns : TableDef → List Column
key_columns table = filter_map (slice_get table.columns) table.key

abbrev pub key_given : TableDef → List TxCell → List Val
key_given table cells = map (given cells) (key_columns table)

-- the cell by its column's place
abbrev pub set_at : List Column → TxCell → Option Column → SetCell
set_at columns c (Some column) = record { column = position_or_len (is_column c.column) columns; value = value_in column c.value }
set_at columns c None = record { column = length columns; value = c.value }

abbrev pub set_given : TableDef → List TxCell → List SetCell
set_given table cells = map (λ c. set_at table.columns c (find (is_column c.column) table.columns)) cells

-- a cell names one of these columns
abbrev pub names_one : List Column → TxCell → Bool
names_one columns c = list_any (is_column c.column) columns

-- the cells name all of these columns, and no other
abbrev pub name_exactly : List Column → List TxCell → Bool
name_exactly columns cells = list_all (names_one columns) cells && list_all (λ column. list_any (is_cell_of column) cells) columns

-- a value that is not null doesn't fit the column that the cell names
abbrev pub is_wrong : List Column → TxCell → Bool
is_wrong columns c = not (is_null c.value) && list_any (λ column. is_column c.column column && is_none (fitted column.kind c.value)) columns

-- null for a column that isn't nullable
abbrev pub is_null_wrongly : List Column → TxCell → Bool
is_null_wrongly columns c = is_null c.value && list_any (λ column. is_column c.column column && not column.nullable) columns

abbrev pub lacks : List TxCell → Column → Bool
lacks cells column = not column.nullable && is_null (given cells column)

-- the reasons of an insert, an update and a delete, in their order
abbrev pub tests_of_insert : TableDef → List TxCell → Rows → List Test
tests_of_insert table row rows =
    test reason.NoColumn (not (list_all (names_one table.columns) row))
    ∷ test reason.WrongKind (list_any (is_wrong table.columns) row)
    ∷ test reason.NullGiven (list_any (lacks row) table.columns)
    ∷ insert_tests table (row_given table row) rows

-- `set` names columns, and none of the key
abbrev pub may_set : TableDef → TxCell → Bool
may_set table c = names_one table.columns c && not (names_one (key_columns table) c)

abbrev pub tests_of_update : TableDef → List TxCell → List TxCell → Rows → List Test
tests_of_update table key set rows =
    test reason.NoColumn (not (name_exactly (key_columns table) key && list_all (may_set table) set))
    ∷ test reason.WrongKind (list_any (is_wrong table.columns) (key ++ set))
    ∷ test reason.NullGiven (list_any (is_null_wrongly table.columns) (key ++ set))
    ∷ update_tests table (key_given table key) (set_given table set) rows

abbrev pub tests_of_delete : TableDef → List TxCell → Rows → List Test
tests_of_delete table key rows =
    test reason.NoColumn (not (name_exactly (key_columns table) key))
    ∷ test reason.WrongKind (list_any (is_wrong table.columns) key)
    ∷ test reason.NullGiven (list_any (is_null_wrongly table.columns) key)
    ∷ delete_tests table (key_given table key) rows

-- the first reason that holds, or the rows after
abbrev pub unless : Option Reason → Database → Result Database Reason
unless (Some r) after = Err r
unless None after = Ok after

abbrev pub rows_at : Database → ℕ → Rows
rows_at db place = unwrap_or (slice_get db place) []

abbrev pub tests_of : TxChange → TableDef → Rows → List Test
tests_of (Insert name row) table = tests_of_insert table row
tests_of (Update name key set) table = tests_of_update table key set
tests_of (Delete name key) table = tests_of_delete table key

abbrev pub rows_after : TxChange → TableDef → Rows → Rows
rows_after (Insert name row) table = inserted table (row_given table row)
rows_after (Update name key set) table = updated table (key_given table key) (set_given table set)
rows_after (Delete name key) table = deleted table (key_given table key)

abbrev pub table_of : TxChange → List ℕ
table_of (Insert name row) = name
table_of (Update name key set) = name
table_of (Delete name key) = name

abbrev pub is_table : List ℕ → TableDef → Bool
is_table name table = bytes_eq table.name name

abbrev pub change_in : Option TableDef → ℕ → Database → TxChange → Result Database Reason
change_in None place db c = Err reason.NoTable
change_in (Some table) place db c = unless (first_reason (tests_of c table (rows_at db place))) (slice_set db place (rows_after c table (rows_at db place)))

-- the database after one change, or the first reason that holds
abbrev pub change : Catalog → Database → TxChange → Result Database Reason
change catalog db c = change_in (find (is_table (table_of c)) catalog.tables) (position_or_len (is_table (table_of c)) catalog.tables) db c

abbrev pub go_on : ℕ → Result Database Reason → (Database → Result Database TxFault) → Result Database TxFault
go_on number (Ok after) more = more after
go_on number (Err r) more = Err (record { change = number; reason = r })

abbrev pub apply_from : Catalog → ℕ → Database → List TxChange → Result Database TxFault
apply_from catalog number db [] = Ok db
apply_from catalog number db (c ∷ cs) = go_on number (change catalog db c) (λ after. apply_from catalog (number + 1) after cs)

-- each change sees the result of the one before; the first at fault decides, with its number from 1
abbrev pub apply : Catalog → Database → List TxChange → Result Database TxFault
apply catalog db tx = apply_from catalog 1 db tx

-- a refused transaction changes nothing
abbrev pub after_or_same : Database → Result Database TxFault → Database
after_or_same db (Ok after) = after
after_or_same db (Err fault) = db

abbrev pub database_after : Catalog → List (List TxChange) → Database → Database
database_after catalog [] db = db
database_after catalog (tx ∷ txs) db = database_after catalog txs (after_or_same db (apply catalog db tx))

-- the database after the first `version` transactions, from empty tables
abbrev pub snapshot : Catalog → List (List TxChange) → ℕ → Database
snapshot catalog txs version = database_after catalog (take version txs) (no_rows catalog)
