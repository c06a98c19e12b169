use Rattle.std.proofs.Common.{List, sym, ap, ◌∙◌}
use Rattle.scalar_val.specs.declared.val.Val.{Val}
use Rattle.data_model.specs.declared.catalog.TableDef.{TableDef}
use Rattle.data_model.specs.Rows.{first_reason, insert_tests}
use Rattle.row_store.specs.Held.{rows_at}
use Rattle.data_model.proofs.Gives.{insert_answers}
use Rattle.tx_apply.proofs.changing.insert_change.Goals as goal

pub returns-clause-answer : goal.returns-clause-answer
returns-clause-answer g c =
    let rows = rows_at c.args.snapshot.now c.args.at in
    insert_answers c.args.table.now c.args.row.now rows c.in_ok-named.named c.reason_of.result c.in_ok-named.ensures (sym c.is_some.ensures ∙ c.if-is_some.false)
    (c.reason_of.ensures ∙ c.in_ok-insert.ensures.answer ∙ ap (λ (t : TableDef). first_reason (insert_tests t c.in_ok-cells.cells rows)) c.requires.table ∙ ap (λ (row : List Val). first_reason (insert_tests c.args.table.now row rows)) c.in_ok-cells.ensures)
