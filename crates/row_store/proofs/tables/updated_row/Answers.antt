use Rattle.std.proofs.Common.{◌≡◌, ◌<◌, ◌∙◌, ℕ, Bool, true, false, [], List, length, get_or, sym, ap, subst}
use Rattle.std.specs.List.{list_any, remove, slice_set}
use Rattle.std.proofs.lemmas.List.{get_or_read}
use Rattle.scalar_val.specs.declared.val.Val.{Val}
use Rattle.data_model.specs.declared.catalog.TableDef.{TableDef}
use Rattle.data_model.specs.declared.transaction.SetCell.{SetCell}
use Rattle.data_model.specs.Rows.{Row, Rows, FitsTable, clash, set_cells}
use Rattle.data_model.specs.Places.{IsFree, IsHeld}
use Rattle.data_model.proofs.Places.{updated_at}
use Rattle.data_model.proofs.Reasons.{no_row, update_clash, may_update, updated_fits}
use Rattle.row_store.proofs.tables.updated_row.Goals as goal

row_made : (rows : Rows) (at : ℕ) (row made : Row) (set : List SetCell) → at < length rows → row ≡ get_or rows at row → made ≡ set_cells set row → made ≡ set_cells set (get_or rows at [])
row_made rows at row made set within is e = e ∙ ap (set_cells set) (get_or_read rows at row within is [])

clash_made : (t : TableDef) (rows : Rows) (at : ℕ) (cells made wanted : Row) (said test : Bool) → cells ≡ made → made ≡ wanted → said ≡ list_any (clash t cells) (remove rows at) → said ≡ test → list_any (clash t wanted) (remove rows at) ≡ test
clash_made t rows at cells made wanted said test e f h k = subst (λ m. list_any (clash t m) (remove rows at) ≡ test) (e ∙ f) (sym h ∙ k)

held : (t : TableDef) (key : List Val) (list rows : Rows) (at : ℕ) → list ≡ rows → IsHeld t key list at → IsHeld t key rows at
held t key list rows at e h = subst (λ xs. IsHeld t key xs at) e h

pub returns-in-Err-clause-refused : goal.returns-in-Err-clause-refused
returns-in-Err-clause-refused g c =
    sym (no_row c.args.table.now c.args.key.now c.args.set.now c.args.rows.now c.in-Err.field-0 (subst (λ xs. IsFree c.args.table.now c.args.key.now xs c.in-Err.field-0) c.as_slice-list.ensures c.in-Err.ensures.err))

pub returns-then-clashes_elsewhere-clause-refused : goal.returns-then-clashes_elsewhere-clause-refused
returns-then-clashes_elsewhere-clause-refused g c =
    let is_held = held c.args.table.now c.args.key.now c.as_slice-list.result.now c.args.rows.now c.in-Ok.at c.as_slice-list.ensures c.in-Ok.ensures.ok in
    let row_is = subst (λ xs. c.index-list-at.result ≡ get_or xs c.in-Ok.at c.index-list-at.result) c.as_slice-list.ensures c.index-list-at.is in
    let made = row_made c.args.rows.now c.in-Ok.at c.index-list-at.result c.in_ok-row-in-Ok.row c.args.set.now is_held.within row_is c.in_ok-row-in-Ok.ensures.value in
    sym (update_clash c.args.table.now c.args.key.now c.args.set.now c.args.rows.now c.in-Ok.at [] is_held
    (clash_made c.args.table.now c.args.rows.now c.in-Ok.at c.cells.result.now _ _ _ true c.cells.ensures made c.clashes_elsewhere.ensures c.if-clashes_elsewhere.true))

pub returns-else-clashes_elsewhere-clause-made : goal.returns-else-clashes_elsewhere-clause-made
returns-else-clashes_elsewhere-clause-made g c =
    let is_held = held c.args.table.now c.args.key.now c.as_slice-list.result.now c.args.rows.now c.in-Ok.at c.as_slice-list.ensures c.in-Ok.ensures.ok in
    let row_is = subst (λ xs. c.index-list-at.result ≡ get_or xs c.in-Ok.at c.index-list-at.result) c.as_slice-list.ensures c.index-list-at.is in
    let made = row_made c.args.rows.now c.in-Ok.at c.index-list-at.result c.in_ok-row-in-Ok.row c.args.set.now is_held.within row_is c.in_ok-row-in-Ok.ensures.value in
    ap (slice_set c.args.rows.now c.in-Ok.at) made ∙ sym (updated_at c.args.table.now c.args.key.now c.args.set.now c.args.rows.now c.in-Ok.at [] is_held)

pub returns-else-clashes_elsewhere-clause-fits : goal.returns-else-clashes_elsewhere-clause-fits
returns-else-clashes_elsewhere-clause-fits g c =
    let is_held = held c.args.table.now c.args.key.now c.as_slice-list.result.now c.args.rows.now c.in-Ok.at c.as_slice-list.ensures c.in-Ok.ensures.ok in
    let row_is = subst (λ xs. c.index-list-at.result ≡ get_or xs c.in-Ok.at c.index-list-at.result) c.as_slice-list.ensures c.index-list-at.is in
    let made = row_made c.args.rows.now c.in-Ok.at c.index-list-at.result c.in_ok-row-in-Ok.row c.args.set.now is_held.within row_is c.in_ok-row-in-Ok.ensures.value in
    subst (λ m. FitsTable c.args.table.now (slice_set c.args.rows.now c.in-Ok.at m)) (sym made)
    (updated_fits c.args.table.now c.args.key.now c.args.set.now c.args.rows.now c.in-Ok.at [] c.requires.fits is_held c.requires.set
    (clash_made c.args.table.now c.args.rows.now c.in-Ok.at c.cells.result.now _ _ _ false c.cells.ensures made c.clashes_elsewhere.ensures c.if-clashes_elsewhere.false))

pub returns-else-clashes_elsewhere-clause-none : goal.returns-else-clashes_elsewhere-clause-none
returns-else-clashes_elsewhere-clause-none g c =
    let is_held = held c.args.table.now c.args.key.now c.as_slice-list.result.now c.args.rows.now c.in-Ok.at c.as_slice-list.ensures c.in-Ok.ensures.ok in
    let row_is = subst (λ xs. c.index-list-at.result ≡ get_or xs c.in-Ok.at c.index-list-at.result) c.as_slice-list.ensures c.index-list-at.is in
    let made = row_made c.args.rows.now c.in-Ok.at c.index-list-at.result c.in_ok-row-in-Ok.row c.args.set.now is_held.within row_is c.in_ok-row-in-Ok.ensures.value in
    sym (may_update c.args.table.now c.args.key.now c.args.set.now c.args.rows.now c.in-Ok.at [] is_held
    (clash_made c.args.table.now c.args.rows.now c.in-Ok.at c.cells.result.now _ _ _ false c.cells.ensures made c.clashes_elsewhere.ensures c.if-clashes_elsewhere.false))
