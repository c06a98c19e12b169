use Rattle.std.proofs.Common.{◌≡◌, ℕ, List, ap, ◌∙◌, length}
use Rattle.std.specs.List.{position_or_len}
use Rattle.data_model.specs.Transactions.{is_column}
use Rattle.data_model.proofs.Gives.{cell_is, set_by_name, set_by_none}
use Rattle.tx_apply.proofs.values.set_at.Goals as goal

pub returns-in_ok-value_in-in-Some : goal.returns-in_ok-value_in-in-Some
returns-in_ok-value_in-in-Some c =
    let columns = c.args.columns.now in
    let cell = c.args.cell.now in
    let at = c.column_place-at.result in
    let place : at ≡ position_or_len (is_column cell.column) columns =
    c.column_place-at.ensures ∙ ap (λ (name : List ℕ). position_or_len (is_column name) c.as_slice.result.now) c.as_str.ensures ∙ ap (position_or_len (is_column cell.column)) c.as_slice.ensures in
    cell_is c.set_cell.result at c.in_ok-value_in-in-Some.field-0 c.set_cell.ensures.column c.set_cell.ensures.value
    ∙ set_by_name columns cell at c.in-Some.named.now c.in_ok-value_in-in-Some.field-0 place c.in-Some.ensures.value c.in_ok-value_in-in-Some.ensures

pub returns-in_ok-copy_val-in-None : goal.returns-in_ok-copy_val-in-None
returns-in_ok-copy_val-in-None c =
    let columns = c.args.columns.now in
    let cell = c.args.cell.now in
    let at = c.column_place-at.result in
    let place : at ≡ position_or_len (is_column cell.column) columns =
    c.column_place-at.ensures ∙ ap (λ (name : List ℕ). position_or_len (is_column name) c.as_slice.result.now) c.as_str.ensures ∙ ap (position_or_len (is_column cell.column)) c.as_slice.ensures in
    cell_is c.set_cell-in-None.result (length columns) c.in_ok-copy_val-in-None.field-0 (c.set_cell-in-None.ensures.column ∙ c.len.ensures) c.set_cell-in-None.ensures.value
    ∙ set_by_none columns cell at c.in_ok-copy_val-in-None.field-0 place c.in-None.ensures.value c.in_ok-copy_val-in-None.ensures
