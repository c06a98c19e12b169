-- A change that no reason by names, kinds and nulls is against gives values that stand in their columns.
use Rattle.std.proofs.Common.{◌≡◌, ℕ, Bool, true, false, not, ◌&&◌, ◌==◌, IsTrue, List, [], ◌∷◌, ◌++◌, length, map, refl, sym, ◌∙◌, ap, subst, Option, Some, None, unwrap_or, option_map, is_none, is_some}
use Rattle.std.specs.List.{find, list_all, list_any, position_or_len, slice_get}
use Rattle.std.specs.Option.{option_or}
use Rattle.std.proofs.lemmas.List.Folds.{find_at}
use Rattle.scalar_val.specs.declared.val.Val.{Val}
use Rattle.scalar_val.specs.declared.val.Val.TheVariants as val
use Rattle.scalar_val.specs.declared.val.Kind.{Kind}
use Rattle.scalar_val.specs.declared.val.Kind.TheVariants as kind
use Rattle.scalar_val.specs.Spellings.{fitted}
use Rattle.data_model.specs.declared.catalog.Column.{Column}
use Rattle.data_model.specs.declared.catalog.TableDef.{TableDef}
use Rattle.data_model.specs.declared.transaction.Reason.{Reason}
use Rattle.data_model.specs.declared.transaction.SetCell.{SetCell}
use Rattle.data_model.specs.declared.transaction.TxCell.{TxCell}
use Rattle.scalar_val.specs.Values.{is_null, has_kind}
use Rattle.data_model.specs.Rows.{stands_in, row_fits, may_stand, Rows, Test, first_reason, insert_tests, update_tests, delete_tests}
use Rattle.data_model.specs.Transactions.{is_column, is_cell_of, value_in, value_given, given, row_given, key_columns, set_at, set_given, names_one, name_exactly, is_wrong, is_null_wrongly, lacks, may_set, key_given, tests_of_insert, tests_of_update, tests_of_delete}
use Rattle.data_model.proofs.Lists.{or_false}
use Rattle.data_model.specs.Naming.{naming_tests, insert_naming, update_naming, delete_naming}
use Rattle.data_model.proofs.Found.{any_of_both, found_passes, found_among, found_none, place_apart}

-- the first reason of all is the first by names, else the first by rows
pub naming_first : (a b c : Bool) (rest : List Test) → first_reason (naming_tests a b c ++ rest) ≡ option_or (first_reason (naming_tests a b c)) (first_reason rest)
naming_first true b c rest = refl
naming_first false true c rest = refl
naming_first false false true rest = refl
naming_first false false false rest = refl

pub naming_passed : (a b c : Bool) → first_reason (naming_tests a b c) ≡ None → (a ≡ false) × (b ≡ false) × (c ≡ false)
naming_passed true b c e = cc
naming_passed false true c e = cc
naming_passed false false true e = cc
naming_passed false false false e = (refl, refl, refl)

-- a scalar that fits is a value of the kind
abbrev IsOfKind : Kind → Option Val → Type 0
IsOfKind k (Some v) = (is_null v ≡ false) × (has_kind k v ≡ true)
IsOfKind k None = Unit {0}

mapped : {A : Type 0} (k : Kind) (f : A → Val) (o : Option A) → ((a : A) → is_null (f a) ≡ false) → ((a : A) → has_kind k (f a) ≡ true) → IsOfKind k (option_map f o)
mapped k f None apart same = tt
mapped k f (Some a) apart same = (apart a, same a)

fitted_kind : (k : Kind) (v : Val) → IsOfKind k (fitted k v)
fitted_kind kind.Bool val.Null = tt
fitted_kind kind.Bool (val.Bool b) = (refl, refl)
fitted_kind kind.Bool (val.Int z) = tt
fitted_kind kind.Bool (val.Big z) = tt
fitted_kind kind.Bool (val.Text t) = tt
fitted_kind kind.Bool (val.Uuid n) = tt
fitted_kind kind.Int val.Null = tt
fitted_kind kind.Int (val.Bool b) = tt
fitted_kind kind.Int (val.Int z) = tt
fitted_kind kind.Int (val.Big z) = mapped kind.Int _ _ (λ a. refl) (λ a. refl)
fitted_kind kind.Int (val.Text t) = tt
fitted_kind kind.Int (val.Uuid n) = tt
fitted_kind kind.Big val.Null = tt
fitted_kind kind.Big (val.Bool b) = tt
fitted_kind kind.Big (val.Int z) = tt
fitted_kind kind.Big (val.Big z) = (refl, refl)
fitted_kind kind.Big (val.Text t) = mapped kind.Big _ _ (λ a. refl) (λ a. refl)
fitted_kind kind.Big (val.Uuid n) = tt
fitted_kind kind.Text val.Null = tt
fitted_kind kind.Text (val.Bool b) = tt
fitted_kind kind.Text (val.Int z) = tt
fitted_kind kind.Text (val.Big z) = tt
fitted_kind kind.Text (val.Text t) = (refl, refl)
fitted_kind kind.Text (val.Uuid n) = tt
fitted_kind kind.Uuid val.Null = tt
fitted_kind kind.Uuid (val.Bool b) = tt
fitted_kind kind.Uuid (val.Int z) = tt
fitted_kind kind.Uuid (val.Big z) = tt
fitted_kind kind.Uuid (val.Text t) = mapped kind.Uuid _ _ (λ a. refl) (λ a. refl)
fitted_kind kind.Uuid (val.Uuid n) = tt

some_kind : (k : Kind) (o : Option Val) → IsOfKind k o → is_none o ≡ false → (is_null (unwrap_or o val.Null) ≡ false) × (has_kind k (unwrap_or o val.Null) ≡ true)
some_kind k None is some = cc
some_kind k (Some v) is some = is

not_none : (o : Option Val) → is_null (unwrap_or o val.Null) ≡ false → is_none o ≡ false
not_none None e = cc
not_none (Some v) e = refl

-- a value that is null only where its column is nullable
stands : (column : Column) (v : Val) (null : Bool) → is_null v ≡ null → (null ≡ true → column.nullable ≡ true) → (null ≡ false → has_kind column.kind v ≡ true) → IsTrue (stands_in column v)
stands column v true is nullable same = rw is (nullable refl)
stands column v false is nullable same = rw is (same refl)

given_kind : (column : Column) (o : Option TxCell) → is_null (value_given column o) ≡ false → has_kind column.kind (value_given column o) ≡ true
given_kind column None e = cc
given_kind column (Some c) e = (some_kind column.kind (fitted column.kind c.value) (fitted_kind column.kind c.value) (not_none (fitted column.kind c.value) e)).1

nullable_then : (nullable null : Bool) → (not nullable && null) ≡ false → null ≡ true → nullable ≡ true
nullable_then true null e is = refl
nullable_then false null e is = cc

stands_given : (cells : List TxCell) (column : Column) → lacks cells column ≡ false → IsTrue (stands_in column (given cells column))
stands_given cells column e =
    stands column (given cells column) (is_null (given cells column)) refl (nullable_then column.nullable (is_null (given cells column)) e) (given_kind column (find (is_cell_of column) cells))

both : (a b : Bool) → IsTrue a → IsTrue b → IsTrue (a && b)
both true b h k = k
both false b h k = cc

row_stands : (cells : List TxCell) (columns : List Column) → list_any (lacks cells) columns ≡ false → IsTrue (row_fits columns (map (given cells) columns))
row_stands cells [] e = refl
row_stands cells (column ∷ columns) e =
    let parts = or_false (lacks cells column) (list_any (lacks cells) columns) e in
    both (stands_in column (given cells column)) (row_fits columns (map (given cells) columns)) (stands_given cells column parts.0) (row_stands cells columns parts.1)

-- a row of an insert fits its table
pub row_given_fits : (table : TableDef) (row : List TxCell) → insert_naming table row ≡ None → IsTrue (row_fits table.columns (row_given table row))
row_given_fits table row e = row_stands row table.columns (naming_passed (not (list_all (names_one table.columns) row)) (list_any (is_wrong table.columns) row) (list_any (lacks row) table.columns) e).2

-- new values may stand in theirs
null_fits_none : (k : Kind) → fitted k val.Null ≡ None
null_fits_none kind.Bool = refl
null_fits_none kind.Int = refl
null_fits_none kind.Big = refl
null_fits_none kind.Text = refl
null_fits_none kind.Uuid = refl

is_null_is : (v : Val) → is_null v ≡ true → v ≡ val.Null
is_null_is val.Null e = refl
is_null_is (val.Bool b) e = cc
is_null_is (val.Int z) e = cc
is_null_is (val.Big z) e = cc
is_null_is (val.Text t) e = cc
is_null_is (val.Uuid n) e = cc

nullable_of : (b : Bool) → not b ≡ false → IsTrue b
nullable_of true e = refl
nullable_of false e = cc

null_stands : (column : Column) → (not column.nullable) ≡ false → IsTrue (stands_in column (value_in column val.Null))
null_stands column e =
    let fits : value_in column val.Null ≡ val.Null = ap (λ (o : Option Val). unwrap_or o val.Null) (null_fits_none column.kind) in
    subst (λ (v : Val). IsTrue (stands_in column v)) (sym fits) (nullable_of column.nullable e)

value_stands : (column : Column) (v : Val) (null : Bool) → is_null v ≡ null → (not null && is_none (fitted column.kind v)) ≡ false → (null && not column.nullable) ≡ false → IsTrue (stands_in column (value_in column v))
value_stands column v true is wrong nulls = subst (λ (w : Val). IsTrue (stands_in column (value_in column w))) (sym (is_null_is v is)) (null_stands column nulls)
value_stands column v false is wrong nulls =
    let some = some_kind column.kind (fitted column.kind v) (fitted_kind column.kind v) wrong in
    stands column (value_in column v) false some.0 (λ e. cc) (λ e. some.1)

both_of : (a b : Bool) → (a && b) ≡ true → (a ≡ true) × (b ≡ true)
both_of true b h = (refl, h)
both_of false b h = cc

not_of : (b : Bool) → not b ≡ true → b ≡ false
not_of true e = cc
not_of false e = refl

not_from : (b : Bool) → not b ≡ false → b ≡ true
not_from true e = refl
not_from false e = cc

and_given : (a b : Bool) → (a && b) ≡ false → a ≡ true → b ≡ false
and_given true b e is = e
and_given false b e is = cc

-- of the first column with a cell's name
kept_in : (a : Bool) (p q : Column → Bool) (columns : List Column) (column : Column) → (a && list_any (λ d. p d && q d) columns) ≡ false → find p columns ≡ Some column → (a && q column) ≡ false
kept_in true p q columns column none found = and_given (p column) (q column) (found_among p (λ d. p d && q d) columns column found none) (found_passes p columns column found)
kept_in false p q columns column none found = refl

set_stands : (table : TableDef) (c : TxCell) (o : Option Column) → find (is_column c.column) table.columns ≡ o → may_set table c ≡ true → is_wrong table.columns c ≡ false → is_null_wrongly table.columns c ≡ false → IsTrue (may_stand table (set_at table.columns c o))
set_stands table c None found may wrong nulls =
    let none = found_none (is_column c.column) table.columns found in
    let some = (both_of (names_one table.columns c) (not (names_one (key_columns table) c)) may).0 in
    cc
set_stands table c (Some column) found may wrong nulls =
    let place = position_or_len (is_column c.column) table.columns in
    let at : slice_get table.columns place ≡ Some column = sym (find_at (is_column c.column) table.columns) ∙ found in
    let apart = not_of (names_one (key_columns table) c) (both_of (names_one table.columns c) (not (names_one (key_columns table) c)) may).1 in
    let key = place_apart table.columns table.key (is_column c.column) place column at (found_passes (is_column c.column) table.columns column found) apart in
    let here = value_stands column c.value (is_null c.value) refl
    (kept_in (not (is_null c.value)) (is_column c.column) (λ d. is_none (fitted d.kind c.value)) table.columns column wrong found)
    (kept_in (is_null c.value) (is_column c.column) (λ d. not d.nullable) table.columns column nulls found) in
    both _ (not (list_any (λ k. k == place) table.key)) (subst (λ (o : Option Column). IsTrue (unwrap_or (option_map (λ d. stands_in d (value_in column c.value)) o) false)) (sym at) here) (rw key refl)

all_stand : (table : TableDef) (set : List TxCell) → list_all (may_set table) set ≡ true → list_any (is_wrong table.columns) set ≡ false → list_any (is_null_wrongly table.columns) set ≡ false → IsTrue (list_all (may_stand table) (set_given table set))
all_stand table [] may wrong nulls = refl
all_stand table (c ∷ set) may wrong nulls =
    let mays = both_of (may_set table c) (list_all (may_set table) set) may in
    let wrongs = or_false (is_wrong table.columns c) (list_any (is_wrong table.columns) set) wrong in
    let nullses = or_false (is_null_wrongly table.columns c) (list_any (is_null_wrongly table.columns) set) nulls in
    both (may_stand table (set_at table.columns c (find (is_column c.column) table.columns))) (list_all (may_stand table) (set_given table set))
    (set_stands table c (find (is_column c.column) table.columns) refl mays.0 wrongs.0 nullses.0)
    (all_stand table set mays.1 wrongs.1 nullses.1)

-- the new values of an update may stand in its table
pub set_given_stands : (table : TableDef) (key set : List TxCell) → update_naming table key set ≡ None → IsTrue (list_all (may_stand table) (set_given table set))
set_given_stands table key set e =
    let passed = naming_passed (not (name_exactly (key_columns table) key && list_all (may_set table) set)) (list_any (is_wrong table.columns) (key ++ set)) (list_any (is_null_wrongly table.columns) (key ++ set)) e in
    let may = both_of (name_exactly (key_columns table) key) (list_all (may_set table) set) (not_from _ passed.0) in
    let wrong = or_false _ (list_any (is_wrong table.columns) set) (sym (any_of_both (is_wrong table.columns) key set) ∙ passed.1) in
    let nulls = or_false _ (list_any (is_null_wrongly table.columns) set) (sym (any_of_both (is_null_wrongly table.columns) key set) ∙ passed.2) in
    all_stand table set may.1 wrong.1 nulls.1

-- the reasons of a change are those by names, and then those by rows
pub insert_first : (table : TableDef) (row : List TxCell) (rows : Rows) → first_reason (tests_of_insert table row rows) ≡ option_or (insert_naming table row) (first_reason (insert_tests table (row_given table row) rows))
insert_first table row rows = naming_first (not (list_all (names_one table.columns) row)) (list_any (is_wrong table.columns) row) (list_any (lacks row) table.columns) (insert_tests table (row_given table row) rows)

pub update_first : (table : TableDef) (key set : List TxCell) (rows : Rows) → first_reason (tests_of_update table key set rows) ≡ option_or (update_naming table key set) (first_reason (update_tests table (key_given table key) (set_given table set) rows))
update_first table key set rows =
    naming_first (not (name_exactly (key_columns table) key && list_all (may_set table) set)) (list_any (is_wrong table.columns) (key ++ set)) (list_any (is_null_wrongly table.columns) (key ++ set))
    (update_tests table (key_given table key) (set_given table set) rows)

pub delete_first : (table : TableDef) (key : List TxCell) (rows : Rows) → first_reason (tests_of_delete table key rows) ≡ option_or (delete_naming table key) (first_reason (delete_tests table (key_given table key) rows))
delete_first table key rows = naming_first (not (name_exactly (key_columns table) key)) (list_any (is_wrong table.columns) key) (list_any (is_null_wrongly table.columns) key) (delete_tests table (key_given table key) rows)

abbrev set_of : ℕ → Val → SetCell
set_of n v = record { column = n; value = v }

pub cell_is : (s : SetCell) (n : ℕ) (v : Val) → s.column ≡ n → s.value ≡ v → s ≡ set_of n v
cell_is s n v e f = ap (λ (k : ℕ). set_of k s.value) e ∙ ap (set_of n) f

-- a cell's new value by the first column that it names
pub set_by_name : (columns : List Column) (c : TxCell) (at : ℕ) (column : Column) (v : Val) → at ≡ position_or_len (is_column c.column) columns → Some column ≡ slice_get columns at → v ≡ value_in column c.value → set_of at v ≡ set_at columns c (find (is_column c.column) columns)
set_by_name columns c at column v place here is =
    let found : find (is_column c.column) columns ≡ Some column = find_at (is_column c.column) columns ∙ ap (slice_get columns) (sym place) ∙ sym here in
    ap (λ (n : ℕ). set_of n v) place ∙ ap (set_of (position_or_len (is_column c.column) columns)) is ∙ ap (set_at columns c) (sym found)

pub set_by_none : (columns : List Column) (c : TxCell) (at : ℕ) (v : Val) → at ≡ position_or_len (is_column c.column) columns → None ≡ slice_get columns at → v ≡ c.value → set_of (length columns) v ≡ set_at columns c (find (is_column c.column) columns)
set_by_none columns c at v place here is =
    let found : find (is_column c.column) columns ≡ None = find_at (is_column c.column) columns ∙ ap (slice_get columns) (sym place) ∙ sym here in
    ap (set_of (length columns)) is ∙ ap (set_at columns c) (sym found)

rows_decide : (named r by_rows : Option Reason) → is_some named ≡ false → r ≡ by_rows → r ≡ option_or named by_rows
rows_decide None r by_rows none is = is
rows_decide (Some a) r by_rows none is = cc

pub insert_answers : (table : TableDef) (row : List TxCell) (rows : Rows) (named r : Option Reason) → named ≡ insert_naming table row → is_some named ≡ false → r ≡ first_reason (insert_tests table (row_given table row) rows) → r ≡ first_reason (tests_of_insert table row rows)
insert_answers table row rows named r is none answer =
    rows_decide named r (first_reason (insert_tests table (row_given table row) rows)) none answer ∙ ap (λ (o : Option Reason). option_or o (first_reason (insert_tests table (row_given table row) rows))) is ∙ sym (insert_first table row rows)

pub update_answers : (table : TableDef) (key set : List TxCell) (rows : Rows) (named r : Option Reason) → named ≡ update_naming table key set → is_some named ≡ false → r ≡ first_reason (update_tests table (key_given table key) (set_given table set) rows) → r ≡ first_reason (tests_of_update table key set rows)
update_answers table key set rows named r is none answer =
    rows_decide named r (first_reason (update_tests table (key_given table key) (set_given table set) rows)) none answer
    ∙ ap (λ (o : Option Reason). option_or o (first_reason (update_tests table (key_given table key) (set_given table set) rows))) is
    ∙ sym (update_first table key set rows)
