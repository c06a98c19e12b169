-- Rows, databases that fit a catalog, and what one change makes of a table's rows. This project's own.
use Rattle.std.specs.Prelude.{◌≡◌, ℕ, ◌≤◌, Bool, true, false, not, ◌&&◌, if◌then◌else◌, nat_le, Option, Some, None, List, [], ◌∷◌, ◌++◌, length, map, slice_get, slice_set, unwrap_or, option_map, ◌==◌, IsTrue, ⊤}
use Rattle.std.specs.Ordering.{is_lt, is_eq, is_gt}
use Rattle.std.specs.Cmp.Lexicographic.{slice_cmp}
use Rattle.std.specs.declared.cmp.Ordering.{Ordering}
use Rattle.std.specs.declared.cmp.Ordering.TheVariants.{Less}
use Rattle.std.specs.List.{AllByRecursion, filter, list_any}
use Rattle.scalar_val.specs.declared.val.Val.{Val}
use Rattle.scalar_val.specs.declared.val.Val.TheVariants as val
use Rattle.scalar_val.specs.declared.val.Kind.{Kind}
use Rattle.scalar_val.specs.declared.val.Kind.TheVariants as kind
use Rattle.scalar_val.specs.ValOrder.{val_cmp}
use Rattle.scalar_val.specs.Values.{cell, has_kind, is_null}
use Rattle.data_model.specs.declared.catalog.Column.{Column}
use Rattle.data_model.specs.declared.catalog.TableDef.{TableDef}
use Rattle.data_model.specs.declared.catalog.Catalog.{Catalog}
use Rattle.data_model.specs.declared.transaction.SetCell.{SetCell}
use Rattle.data_model.specs.declared.transaction.Reason.{Reason}
use Rattle.data_model.specs.declared.transaction.Reason.TheVariants as reason

-- values in the order of the table's columns
abbrev pub Row : Type 0
Row = List Val

abbrev pub Rows : Type 0
Rows = List Row

-- the rows of each table, in the order of the catalog
abbrev pub Database : Type 0
Database = List Rows

abbrev pub key_of : TableDef → Row → List Val
key_of table row = map (cell row) table.key

abbrev pub key_cmp : List Val → List Val → Ordering
key_cmp = slice_cmp val_cmp

-- the row's key is this one, below it, above it
abbrev pub has_key : TableDef → List Val → Row → Bool
has_key table key row = is_eq (key_cmp (key_of table row) key)

abbrev pub is_below : TableDef → List Val → Row → Bool
is_below table key row = is_lt (key_cmp (key_of table row) key)

abbrev pub is_above : TableDef → List Val → Row → Bool
is_above table key row = is_gt (key_cmp (key_of table row) key)

-- null where the column is nullable, else a value of its kind
abbrev pub stands_in : Column → Val → Bool
stands_in column value = if is_null value then column.nullable else has_kind column.kind value

-- one value for each column
abbrev pub row_fits : List Column → Row → Bool
row_fits [] [] = true
row_fits (c ∷ cs) (v ∷ vs) = stands_in c v && row_fits cs vs
row_fits _ _ = false

-- both rows have this value in a unique column, and it is not null
abbrev pub alike_at : Row → Row → ℕ → Bool
alike_at a b column = not (is_null (cell a column)) && is_eq (val_cmp (cell a column) (cell b column))

abbrev pub clash : TableDef → Row → Row → Bool
clash table a b = list_any (alike_at a b) table.unique

-- each element with every later one
abbrev pub Pairwise : {X : Type 0} → (X → X → Type 0) → List X → Type 0
Pairwise R [] = ⊤
Pairwise R (x ∷ xs) = AllByRecursion (R x) xs × Pairwise R xs

-- each row's key is below those of all later rows
abbrev pub Ascends : TableDef → Rows → Type 0
Ascends table rows = Pairwise (λ a b. key_cmp (key_of table a) (key_of table b) ≡ Less) rows

-- kinds, ascending keys, unique columns, and the most rows
pub record FitsTable (table : TableDef) (rows : Rows) : Type 0 where
  pub kinds : AllByRecursion (λ row. IsTrue (row_fits table.columns row)) rows
  pub ascending : Ascends table rows
  pub unique : Pairwise (λ a b. clash table a b ≡ false) rows
  pub room : length rows ≤ table.max_rows

-- each table of the catalog has its rows
abbrev pub FitAll : List TableDef → Database → Type 0
FitAll [] [] = ⊤
FitAll (t ∷ ts) (rows ∷ db) = FitsTable t rows × FitAll ts db
FitAll [] (rows ∷ db) = ⊥
FitAll (t ∷ ts) [] = ⊥

abbrev pub Fits : Catalog → Database → Type 0
Fits catalog db = FitAll catalog.tables db

abbrev pub no_rows : Catalog → Database
no_rows catalog = map (λ (t : TableDef). []) catalog.tables

-- the rows with one more in its place by key
abbrev pub inserted : TableDef → Row → Rows → Rows
inserted table row rows = filter (is_below table (key_of table row)) rows ++ row ∷ filter (is_above table (key_of table row)) rows

abbrev pub set_cells : List SetCell → Row → Row
set_cells [] row = row
set_cells (c ∷ cs) row = set_cells cs (slice_set row c.column c.value)

-- new values in the row with this key
abbrev pub updated : TableDef → List Val → List SetCell → Rows → Rows
updated table key cells rows = map (λ row. if has_key table key row then set_cells cells row else row) rows

-- without the row with this key
abbrev pub deleted : TableDef → List Val → Rows → Rows
deleted table key rows = filter (λ row. not (has_key table key row)) rows

-- a reason and whether it holds
pub record Test : Type 0 where
  pub reason : Reason
  pub holds : Bool

abbrev pub test : Reason → Bool → Test
test r b = record { reason = r; holds = b }

abbrev pub first_reason : List Test → Option Reason
first_reason [] = None
first_reason (t ∷ ts) = if t.holds then Some t.reason else first_reason ts

-- why a whole row can't be inserted, a row with a key updated, or deleted; the first that holds is the reason
abbrev pub insert_tests : TableDef → Row → Rows → List Test
insert_tests table row rows =
    test reason.KeyTaken (list_any (has_key table (key_of table row)) rows)
    ∷ test reason.UniqueTaken (list_any (clash table row) rows)
    ∷ test reason.TableFull (nat_le table.max_rows (length rows))
    ∷ []

abbrev pub update_tests : TableDef → List Val → List SetCell → Rows → List Test
update_tests table key cells rows =
    test reason.NoRow (not (list_any (has_key table key) rows))
    ∷ test reason.UniqueTaken (list_any (λ row. has_key table key row && list_any (clash table (set_cells cells row)) (deleted table key rows)) rows)
    ∷ []

abbrev pub delete_tests : TableDef → List Val → Rows → List Test
delete_tests table key rows = test reason.NoRow (not (list_any (has_key table key) rows)) ∷ []

-- a new value that its column takes, and not in a key column
abbrev pub may_stand : TableDef → SetCell → Bool
may_stand table c = unwrap_or (option_map (λ column. stands_in column c.value) (slice_get table.columns c.column)) false && not (list_any (λ column. column == c.column) table.key)
