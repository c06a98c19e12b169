use Rattle.std.proofs.Common.{◌≡◌, IsTrue, length, map, get_or, sym, ap, subst, arith}
use Rattle.std.specs.Prelude.{IfOk}
use Rattle.std.specs.Arc.{arc_value}
use Rattle.data_model.specs.Rows.{FitsTable, row_fits, inserted, first_reason, insert_tests}
use Rattle.row_store.specs.Held.{def_at, rows_in}
use Rattle.row_store.specs.Stored.{reason_of, after}
use Rattle.row_store.proofs.TableSteps.{in_range, rows_are, table_fits, state_set, fits_after}
use Rattle.row_store.proofs.changes.insert_at.Goals as goal

pub def_of-requires : goal.def_of-requires
def_of-requires g c = in_range (λ rows. arc_value rows) c.args.defs.now c.args.tables.now c.args.at c.requires.fits c.requires.range

pub insert_into-requires-clause-fits : goal.insert_into-requires-clause-fits
insert_into-requires-clause-fits g c =
    subst (λ t. FitsTable t (arc_value (get_or c.args.tables.now c.args.at c.index-tables-at.result))) (sym c.def_of.ensures)
    (table_fits (λ rows. arc_value rows) c.args.defs.now c.args.tables.now c.args.at c.index-tables-at.result c.requires.fits c.requires.range)

pub insert_into-requires-clause-row : goal.insert_into-requires-clause-row
insert_into-requires-clause-row g c = subst (λ t. IsTrue (row_fits t.columns c.args.cells)) (sym c.def_of.ensures) c.requires.row

pub returns-clause-answer : goal.returns-clause-answer
returns-clause-answer g c =
    subst (λ rows. IfOk c.insert_into.result (λ stored. reason_of stored ≡ first_reason (insert_tests (def_at c.args.defs.now c.args.at) c.args.cells rows))) (sym (rows_are (λ rows. arc_value rows) c.args.tables.now c.args.at c.index-tables-at.result c.requires.range))
    (subst (λ t. IfOk c.insert_into.result (λ stored. reason_of stored ≡ first_reason (insert_tests t c.args.cells (arc_value (get_or c.args.tables.now c.args.at c.index-tables-at.result))))) c.def_of.ensures c.insert_into.ensures.answer)

pub returns-clause-state : goal.returns-clause-state
returns-clause-state g c =
    state_set (λ rows. arc_value rows) c.args.tables.now c.args.at c.index-tables-at.result c.insert_into.new.rows c.insert_into.result (inserted (def_at c.args.defs.now c.args.at) c.args.cells) c.requires.range
    (subst (λ t. arc_value c.insert_into.new.rows ≡ after c.insert_into.result (arc_value (get_or c.args.tables.now c.args.at c.index-tables-at.result)) (inserted t c.args.cells (arc_value (get_or c.args.tables.now c.args.at c.index-tables-at.result)))) c.def_of.ensures c.insert_into.ensures.state)

pub returns-clause-fits : goal.returns-clause-fits
returns-clause-fits g c =
    fits_after (λ rows. arc_value rows) c.args.defs.now c.args.tables.now c.args.at c.insert_into.new.rows c.requires.fits c.requires.range
    (subst (λ t. FitsTable t (arc_value c.insert_into.new.rows)) c.def_of.ensures c.insert_into.ensures.fits)

pub returns-clause-steps : goal.returns-clause-steps
returns-clause-steps g c =
    let rows = rows_are (λ rows. arc_value rows) c.args.tables.now c.args.at c.index-tables-at.result c.requires.range in
    let same : length (rows_in (map (λ rows. arc_value rows) c.args.tables.now) c.args.at) ≡ length (arc_value (get_or c.args.tables.now c.args.at c.index-tables-at.result)) = ap length rows in
    omega (arith, c.insert_into.ensures.steps)
