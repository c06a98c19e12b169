use Rattle.std.proofs.Common.{◌≡◌, ◌≤◌, ◌<◌, ◌∙◌, ℕ, true, false, List, [], length, nat_le, sym, subst, arith}
use Rattle.std.proofs.lemmas.Bool.Decides.{nat_tests}
use Rattle.scalar_val.specs.declared.val.Val.{Val}
use Rattle.data_model.specs.declared.catalog.TableDef.{TableDef}
use Rattle.data_model.specs.Rows.{Rows}
use Rattle.data_model.specs.Places.{IsFree, IsHeld}
use Rattle.data_model.proofs.Places.{inserted_at}
use Rattle.data_model.proofs.Reasons.{key_taken, insert_clash, table_full, may_insert, inserted_fits}
use Rattle.row_store.proofs.tables.insert_place.Goals as goal

full_test : (most n : ℕ) → most ≤ n → nat_le most n ≡ true
full_test most n h = grind (arith, nat_tests)

room_test : (most n : ℕ) → n < most → nat_le most n ≡ false
room_test most n h = grind (arith, nat_tests)

held : (t : TableDef) (key wanted : List Val) (list rows : Rows) (at : ℕ) → list ≡ rows → key ≡ wanted → IsHeld t key list at → IsHeld t wanted rows at
held t key wanted list rows at e f h = subst (λ k. IsHeld t k rows at) f (subst (λ xs. IsHeld t key xs at) e h)

free : (t : TableDef) (key wanted : List Val) (list rows : Rows) (at : ℕ) → list ≡ rows → key ≡ wanted → IsFree t key list at → IsFree t wanted rows at
free t key wanted list rows at e f h = subst (λ k. IsFree t k rows at) f (subst (λ xs. IsFree t key xs at) e h)

pub returns-in-Ok-clause-refused : goal.returns-in-Ok-clause-refused
returns-in-Ok-clause-refused c =
    sym (key_taken c.args.table.now c.args.cells.now c.args.rows.now c.in-Ok.field-0 [] (held c.args.table.now c.args.key.now _ c.as_slice-list.result.now c.args.rows.now c.in-Ok.field-0 c.as_slice-list.ensures c.requires.key c.in-Ok.ensures.ok))

pub returns-then-clashes-clause-refused : goal.returns-then-clashes-clause-refused
returns-then-clashes-clause-refused c =
    sym (insert_clash c.args.table.now c.args.cells.now c.args.rows.now c.in-Err.at (free c.args.table.now c.args.key.now _ c.as_slice-list.result.now c.args.rows.now c.in-Err.at c.as_slice-list.ensures c.requires.key c.in-Err.ensures.err) (sym c.clashes.ensures ∙ c.if-clashes.true))

pub returns-then-list-table-clause-refused : goal.returns-then-list-table-clause-refused
returns-then-list-table-clause-refused c =
    sym (table_full c.args.table.now c.args.cells.now c.args.rows.now c.in-Err.at (free c.args.table.now c.args.key.now _ c.as_slice-list.result.now c.args.rows.now c.in-Err.at c.as_slice-list.ensures c.requires.key c.in-Err.ensures.err) (sym c.clashes.ensures ∙ c.if-clashes.false) (full_test _ _ (subst (λ xs. c.args.table.now.max_rows ≤ length xs) c.as_slice-list.ensures c.if-list-table.true)))

pub returns-else-list-table-clause-within : goal.returns-else-list-table-clause-within
returns-else-list-table-clause-within c = (free c.args.table.now c.args.key.now _ c.as_slice-list.result.now c.args.rows.now c.in-Err.at c.as_slice-list.ensures c.requires.key c.in-Err.ensures.err).within

pub returns-else-list-table-clause-made : goal.returns-else-list-table-clause-made
returns-else-list-table-clause-made c =
    sym (inserted_at c.args.table.now c.args.cells.now c.args.rows.now c.in-Err.at (free c.args.table.now c.args.key.now _ c.as_slice-list.result.now c.args.rows.now c.in-Err.at c.as_slice-list.ensures c.requires.key c.in-Err.ensures.err))

pub returns-else-list-table-clause-fits : goal.returns-else-list-table-clause-fits
returns-else-list-table-clause-fits c =
    let is_free = free c.args.table.now c.args.key.now _ c.as_slice-list.result.now c.args.rows.now c.in-Err.at c.as_slice-list.ensures c.requires.key c.in-Err.ensures.err in
    inserted_fits c.args.table.now c.args.cells.now c.args.rows.now c.in-Err.at c.requires.fits c.requires.row is_free
    (may_insert c.args.table.now c.args.cells.now c.args.rows.now c.in-Err.at is_free (sym c.clashes.ensures ∙ c.if-clashes.false) (room_test _ _ (subst (λ xs. length xs < c.args.table.now.max_rows) c.as_slice-list.ensures c.if-list-table.false)))

pub returns-else-list-table-clause-none : goal.returns-else-list-table-clause-none
returns-else-list-table-clause-none c =
    sym (may_insert c.args.table.now c.args.cells.now c.args.rows.now c.in-Err.at (free c.args.table.now c.args.key.now _ c.as_slice-list.result.now c.args.rows.now c.in-Err.at c.as_slice-list.ensures c.requires.key c.in-Err.ensures.err) (sym c.clashes.ensures ∙ c.if-clashes.false) (room_test _ _ (subst (λ xs. length xs < c.args.table.now.max_rows) c.as_slice-list.ensures c.if-list-table.false)))
