use Rattle.std.proofs.Common.{sym, ap, ◌∙◌, List}
use Rattle.std.proofs.lemmas.Result.{IfOk-weaker}
use Rattle.data_model.specs.declared.transaction.TxCell.{TxCell}
use Rattle.data_model.specs.declared.transaction.TxChange.{TxChange}
use Rattle.data_model.specs.Rows.{first_reason, inserted, updated, deleted}
use Rattle.data_model.specs.Transactions.{key_given, row_given, rows_after, set_given, tests_of, tests_of_delete, tests_of_insert, tests_of_update}
use Rattle.row_store.specs.Held.{rows_at, with_rows}
use Rattle.tx_apply.proofs.changing.change_table.Goals as goal

pub returns-in-Insert-clause-answer : goal.returns-in-Insert-clause-answer
returns-in-Insert-clause-answer g c =
    let table = c.args.table.now in
    let rows = rows_at c.args.snapshot.now c.args.at in
    IfOk-weaker c.insert_change.result _ _ (λ r is. is ∙ ap (λ (row : List TxCell). first_reason (tests_of_insert table row rows)) c.as_slice.ensures.value ∙ ap (λ (change : TxChange). first_reason (tests_of change table rows)) (sym c.in-Insert.is)) c.insert_change.ensures.answer

pub returns-in-Insert-clause-state : goal.returns-in-Insert-clause-state
returns-in-Insert-clause-state g c =
    let table = c.args.table.now in
    let held = c.args.snapshot.now in
    let at = c.args.at in
    IfOk-weaker c.insert_change.result _ _ (λ r is none. is none ∙ ap (λ (row : List TxCell). with_rows held at (inserted table (row_given table row) (rows_at held at))) c.as_slice.ensures.value ∙ ap (λ (change : TxChange). with_rows held at (rows_after change table (rows_at held at))) (sym c.in-Insert.is)) c.insert_change.ensures.state

pub returns-in-Update-clause-answer : goal.returns-in-Update-clause-answer
returns-in-Update-clause-answer g c =
    let table = c.args.table.now in
    let rows = rows_at c.args.snapshot.now c.args.at in
    IfOk-weaker c.update_change.result _ _ (λ r is. is ∙ ap (λ (key : List TxCell). first_reason (tests_of_update table key c.as_slice-in-Update-2.result.now rows)) c.as_slice-in-Update.ensures.value ∙ ap (λ (set : List TxCell). first_reason (tests_of_update table c.in-Update.key set rows)) c.as_slice-in-Update-2.ensures.value ∙ ap (λ (change : TxChange). first_reason (tests_of change table rows)) (sym c.in-Update.is)) c.update_change.ensures.answer

pub returns-in-Update-clause-state : goal.returns-in-Update-clause-state
returns-in-Update-clause-state g c =
    let table = c.args.table.now in
    let held = c.args.snapshot.now in
    let at = c.args.at in
    IfOk-weaker c.update_change.result _ _ (λ r is none. is none ∙ ap (λ (key : List TxCell). with_rows held at (updated table (key_given table key) (set_given table c.as_slice-in-Update-2.result.now) (rows_at held at))) c.as_slice-in-Update.ensures.value ∙ ap (λ (set : List TxCell). with_rows held at (updated table (key_given table c.in-Update.key) (set_given table set) (rows_at held at))) c.as_slice-in-Update-2.ensures.value ∙ ap (λ (change : TxChange). with_rows held at (rows_after change table (rows_at held at))) (sym c.in-Update.is)) c.update_change.ensures.state

pub returns-in-Delete-clause-answer : goal.returns-in-Delete-clause-answer
returns-in-Delete-clause-answer g c =
    let table = c.args.table.now in
    let rows = rows_at c.args.snapshot.now c.args.at in
    IfOk-weaker c.delete_change.result _ _ (λ r is. is ∙ ap (λ (key : List TxCell). first_reason (tests_of_delete table key rows)) c.as_slice-in-Delete.ensures.value ∙ ap (λ (change : TxChange). first_reason (tests_of change table rows)) (sym c.in-Delete.is)) c.delete_change.ensures.answer

pub returns-in-Delete-clause-state : goal.returns-in-Delete-clause-state
returns-in-Delete-clause-state g c =
    let table = c.args.table.now in
    let held = c.args.snapshot.now in
    let at = c.args.at in
    IfOk-weaker c.delete_change.result _ _ (λ r is none. is none ∙ ap (λ (key : List TxCell). with_rows held at (deleted table (key_given table key) (rows_at held at))) c.as_slice-in-Delete.ensures.value ∙ ap (λ (change : TxChange). with_rows held at (rows_after change table (rows_at held at))) (sym c.in-Delete.is)) c.delete_change.ensures.state
