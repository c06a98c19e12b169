-- What a search by key tells of the reasons of a change, and of the rows after it.
use Rattle.std.proofs.Common.{◌≡◌, ℕ, ◌+◌, ◌<◌, ◌≤◌, zero, suc, Bool, true, false, not, ◌&&◌, ◌||◌, if◌then◌else◌, IsTrue, nat_le, Option, Some, None, List, [], ◌∷◌, ◌++◌, length, take, drop, get_or, refl, sym, ap, subst, ◌∙◌}
use Rattle.std.specs.List.{AllByRecursion, list_any, list_all, insert, remove, slice_set}
use Rattle.std.proofs.lemmas.List.Folds.{list_any-append}
use Rattle.scalar_val.specs.declared.val.Val.{Val}
use Rattle.data_model.specs.declared.catalog.TableDef.{TableDef}
use Rattle.data_model.specs.declared.transaction.SetCell.{SetCell}
use Rattle.data_model.specs.declared.transaction.Reason.{Reason}
use Rattle.data_model.specs.declared.transaction.Reason.TheVariants as reason
use Rattle.data_model.specs.Rows.{Row, Rows, key_of, has_key, clash, row_fits, may_stand, set_cells, inserted, updated, deleted, FitsTable, Test, test, first_reason, insert_tests, update_tests, delete_tests}
use Rattle.data_model.specs.Places.{IsFree, IsHeld}
use Rattle.data_model.proofs.Lists.{all_in}
use Rattle.data_model.proofs.Places.{free_nowhere, has_held, any_held, inserted_at, updated_at, deleted_at}
use Rattle.data_model.proofs.Fitting.{fits_insert, fits_set, fits_remove, set_fits, set_keeps_key}

some_none : {A : Type 0} (b : Bool) (x : A) (o : Option A) → (if b then Some x else o) ≡ None → (b ≡ false) × (o ≡ None)
some_none true x o h = cc
some_none false x o h = (refl, h)

-- an insert
pub key_taken : (t : TableDef) (row : Row) (rows : Rows) (at : ℕ) (d : Row) → IsHeld t (key_of t row) rows at → first_reason (insert_tests t row rows) ≡ Some reason.KeyTaken
key_taken t row rows at d h = rw (has_held t (key_of t row) rows at d h) refl

pub insert_clash : (t : TableDef) (row : Row) (rows : Rows) (at : ℕ) → IsFree t (key_of t row) rows at → list_any (clash t row) rows ≡ true → first_reason (insert_tests t row rows) ≡ Some reason.UniqueTaken
insert_clash t row rows at h clashes = rw (free_nowhere t (key_of t row) rows at h, clashes) refl

pub table_full : (t : TableDef) (row : Row) (rows : Rows) (at : ℕ) → IsFree t (key_of t row) rows at → list_any (clash t row) rows ≡ false → nat_le t.max_rows (length rows) ≡ true → first_reason (insert_tests t row rows) ≡ Some reason.TableFull
table_full t row rows at h apart full = rw (free_nowhere t (key_of t row) rows at h, apart, full) refl

pub may_insert : (t : TableDef) (row : Row) (rows : Rows) (at : ℕ) → IsFree t (key_of t row) rows at → list_any (clash t row) rows ≡ false → nat_le t.max_rows (length rows) ≡ false → first_reason (insert_tests t row rows) ≡ None
may_insert t row rows at h apart full = rw (free_nowhere t (key_of t row) rows at h, apart, full) refl

pub inserted_fits : (t : TableDef) (row : Row) (rows : Rows) (at : ℕ) → FitsTable t rows → IsTrue (row_fits t.columns row) → IsFree t (key_of t row) rows at → first_reason (insert_tests t row rows) ≡ None → FitsTable t (insert rows at row)
inserted_fits t row rows at fits row_is free none =
    let after_key = some_none (list_any (has_key t (key_of t row)) rows) reason.KeyTaken (first_reason (test reason.UniqueTaken (list_any (clash t row) rows) ∷ test reason.TableFull (nat_le t.max_rows (length rows)) ∷ [])) none in
    let after_unique = some_none (list_any (clash t row) rows) reason.UniqueTaken (first_reason (test reason.TableFull (nat_le t.max_rows (length rows)) ∷ [])) after_key.1 in
    let after_full = some_none (nat_le t.max_rows (length rows)) reason.TableFull None after_unique.1 in
    fits_insert t row rows at fits row_is free after_unique.0 after_full.0

-- an update
others : (t : TableDef) (key : List Val) (cells : List SetCell) (rows : Rows) (at : ℕ) (d : Row) → IsHeld t key rows at → list_any (λ row. has_key t key row && list_any (clash t (set_cells cells row)) (deleted t key rows)) rows ≡ list_any (clash t (set_cells cells (get_or rows at d))) (remove rows at)
others t key cells rows at d h =
    any_held t key rows at d (λ row. list_any (clash t (set_cells cells row)) (deleted t key rows)) h
    ∙ ap (list_any (clash t (set_cells cells (get_or rows at d)))) (deleted_at t key rows at d h)

pub no_row : (t : TableDef) (key : List Val) (cells : List SetCell) (rows : Rows) (at : ℕ) → IsFree t key rows at → first_reason (update_tests t key cells rows) ≡ Some reason.NoRow
no_row t key cells rows at h = rw (free_nowhere t key rows at h) refl

pub update_clash : (t : TableDef) (key : List Val) (cells : List SetCell) (rows : Rows) (at : ℕ) (d : Row) → IsHeld t key rows at → list_any (clash t (set_cells cells (get_or rows at d))) (remove rows at) ≡ true → first_reason (update_tests t key cells rows) ≡ Some reason.UniqueTaken
update_clash t key cells rows at d h clashes = rw (has_held t key rows at d h, others t key cells rows at d h, clashes) refl

pub may_update : (t : TableDef) (key : List Val) (cells : List SetCell) (rows : Rows) (at : ℕ) (d : Row) → IsHeld t key rows at → list_any (clash t (set_cells cells (get_or rows at d))) (remove rows at) ≡ false → first_reason (update_tests t key cells rows) ≡ None
may_update t key cells rows at d h apart = rw (has_held t key rows at d h, others t key cells rows at d h, apart) refl

pub row_at : (P : Row → Type 0) (rows : Rows) (at : ℕ) (d : Row) → at < length rows → AllByRecursion P rows → P (get_or rows at d)
row_at P rows at d within h = all_in P rows h at d within

pub updated_fits : (t : TableDef) (key : List Val) (cells : List SetCell) (rows : Rows) (at : ℕ) (d : Row) → FitsTable t rows → IsHeld t key rows at → IsTrue (list_all (may_stand t) cells) → list_any (clash t (set_cells cells (get_or rows at d))) (remove rows at) ≡ false → FitsTable t (slice_set rows at (set_cells cells (get_or rows at d)))
updated_fits t key cells rows at d fits h may apart =
    let row = get_or rows at d in
    fits_set t (set_cells cells row) rows at d h.within fits
    (set_fits t cells row may (row_at (λ row. IsTrue (row_fits t.columns row)) rows at d h.within fits.kinds))
    (set_keeps_key t cells row may) apart

-- a delete
pub nothing_to_delete : (t : TableDef) (key : List Val) (rows : Rows) (at : ℕ) → IsFree t key rows at → first_reason (delete_tests t key rows) ≡ Some reason.NoRow
nothing_to_delete t key rows at h = rw (free_nowhere t key rows at h) refl

pub may_delete : (t : TableDef) (key : List Val) (rows : Rows) (at : ℕ) (d : Row) → IsHeld t key rows at → first_reason (delete_tests t key rows) ≡ None
may_delete t key rows at d h = rw (has_held t key rows at d h) refl
