use Rattle.std.proofs.Common.{◌≡◌, ℕ, List, refl, ap, ◌∙◌}
use Rattle.std.specs.List.{position_or_len}
use Rattle.data_model.specs.Transactions.{is_table, table_of}
use Rattle.tx_apply.proofs.Changes.{both_ok, change_answers, no_table_answers, table_is, table_within}
use Rattle.tx_apply.proofs.changing.change_one.Goals as goal

pub change_table-requires-clause-range : goal.change_table-requires-clause-range
change_table-requires-clause-range g c = table_within c.args.catalog.now c.args.snapshot.now c.in-Some.table.now c.table_place-place.result c.table_place-place.result c.requires c.fits.ensures c.in-Some.ensures.value refl

pub change_table-requires-clause-table : goal.change_table-requires-clause-table
change_table-requires-clause-table g c = table_is c.args.catalog.now c.args.snapshot.now c.in-Some.table.now c.table_place-place.result c.requires c.in-Some.ensures.value

pub returns-in-Some-clause-answer : goal.returns-in-Some-clause-answer
returns-in-Some-clause-answer g c =
    let slice = c.as_slice.result.now in
    let change = c.args.change.now in
    let place : c.table_place-place.result ≡ position_or_len (is_table (table_of change)) c.args.catalog.now.tables =
    c.table_place-place.ensures ∙ ap (λ (name : List ℕ). position_or_len (is_table name) slice) c.table_of.ensures ∙ ap (position_or_len (is_table (table_of change))) c.as_slice.ensures in
    both_ok c.change_table.result _ _ _
    (λ r answer state. change_answers c.args.catalog.now c.args.snapshot.now c.change_table.new.snapshot change c.in-Some.table.now c.table_place-place.result r place c.in-Some.ensures.value answer state)
    c.change_table.ensures.answer c.change_table.ensures.state

pub returns-in-None-clause-answer : goal.returns-in-None-clause-answer
returns-in-None-clause-answer g c =
    let slice = c.as_slice.result.now in
    let change = c.args.change.now in
    let place : c.table_place-place.result ≡ position_or_len (is_table (table_of change)) c.args.catalog.now.tables =
    c.table_place-place.ensures ∙ ap (λ (name : List ℕ). position_or_len (is_table name) slice) c.table_of.ensures ∙ ap (position_or_len (is_table (table_of change))) c.as_slice.ensures in
    no_table_answers c.args.catalog.now c.args.snapshot.now c.args.snapshot.now change c.table_place-place.result place c.in-None.ensures.value
