use Rattle.std.proofs.Common.{◌≡◌, IsTrue, length, map, get_or, sym, ap, subst, arith}
use Rattle.std.specs.Prelude.{IfOk}
use Rattle.std.specs.Arc.{arc_value}
use Rattle.std.specs.List.{list_all}
use Rattle.data_model.specs.Rows.{FitsTable, may_stand, updated, first_reason, update_tests}
use Rattle.row_store.specs.Held.{def_at, rows_in}
use Rattle.row_store.specs.Stored.{reason_of, after}
use Rattle.row_store.proofs.TableSteps.{in_range, rows_are, table_fits, state_set, fits_after}
use Rattle.row_store.proofs.changes.update_at.Goals as goal

pub def_of-requires : goal.def_of-requires
def_of-requires g c = in_range (λ rows. arc_value rows) c.args.defs.now c.args.tables.now c.args.at c.requires.fits c.requires.range

pub update_in-requires-clause-fits : goal.update_in-requires-clause-fits
update_in-requires-clause-fits g c =
    subst (λ t. FitsTable t (arc_value (get_or c.args.tables.now c.args.at c.index-tables-at.result))) (sym c.def_of.ensures)
    (table_fits (λ rows. arc_value rows) c.args.defs.now c.args.tables.now c.args.at c.index-tables-at.result c.requires.fits c.requires.range)

pub update_in-requires-clause-set : goal.update_in-requires-clause-set
update_in-requires-clause-set g c = subst (λ t. IsTrue (list_all (may_stand t) c.args.set.now)) (sym c.def_of.ensures) c.requires.set

pub returns-clause-answer : goal.returns-clause-answer
returns-clause-answer g c =
    subst (λ rows. IfOk c.update_in.result (λ stored. reason_of stored ≡ first_reason (update_tests (def_at c.args.defs.now c.args.at) c.args.key.now c.args.set.now rows))) (sym (rows_are (λ rows. arc_value rows) c.args.tables.now c.args.at c.index-tables-at.result c.requires.range))
    (subst (λ t. IfOk c.update_in.result (λ stored. reason_of stored ≡ first_reason (update_tests t c.args.key.now c.args.set.now (arc_value (get_or c.args.tables.now c.args.at c.index-tables-at.result))))) c.def_of.ensures c.update_in.ensures.answer)

pub returns-clause-state : goal.returns-clause-state
returns-clause-state g c =
    state_set (λ rows. arc_value rows) c.args.tables.now c.args.at c.index-tables-at.result c.update_in.new.rows c.update_in.result (updated (def_at c.args.defs.now c.args.at) c.args.key.now c.args.set.now) c.requires.range
    (subst (λ t. arc_value c.update_in.new.rows ≡ after c.update_in.result (arc_value (get_or c.args.tables.now c.args.at c.index-tables-at.result)) (updated t c.args.key.now c.args.set.now (arc_value (get_or c.args.tables.now c.args.at c.index-tables-at.result)))) c.def_of.ensures c.update_in.ensures.state)

pub returns-clause-fits : goal.returns-clause-fits
returns-clause-fits g c =
    fits_after (λ rows. arc_value rows) c.args.defs.now c.args.tables.now c.args.at c.update_in.new.rows c.requires.fits c.requires.range
    (subst (λ t. FitsTable t (arc_value c.update_in.new.rows)) c.def_of.ensures c.update_in.ensures.fits)

pub returns-clause-steps : goal.returns-clause-steps
returns-clause-steps g c =
    let rows = rows_are (λ rows. arc_value rows) c.args.tables.now c.args.at c.index-tables-at.result c.requires.range in
    let same : length (rows_in (map (λ rows. arc_value rows) c.args.tables.now) c.args.at) ≡ length (arc_value (get_or c.args.tables.now c.args.at c.index-tables-at.result)) = ap length rows in
    omega (arith, c.update_in.ensures.steps)
