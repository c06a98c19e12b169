use Rattle.std.proofs.Common.{◌≡◌, ◌∙◌, ap, arith}
use Rattle.std.specs.Prelude.{IfOk}
use Rattle.std.specs.Arc.{arc_value}
use Rattle.std.proofs.lemmas.List.{with_items_is}
use Rattle.data_model.specs.declared.catalog.Catalog.{Catalog}
use Rattle.data_model.specs.Rows.{inserted, first_reason, insert_tests}
use Rattle.row_store.specs.Stored.{reason_of}
use Rattle.row_store.proofs.TableSteps.{seen_by, held_by}
use Rattle.row_store.proofs.snapshot.Snapshot.insert.Goals as goal

pub returns-clause-answer : goal.returns-clause-answer
returns-clause-answer g c =
    seen_by (λ rows. arc_value rows) (λ t rows. IfOk c.insert_at.result (λ stored. reason_of stored ≡ first_reason (insert_tests t c.args.cells rows)))
    (arc_value c.self.inside.catalog) c.as_slice.result.now c.self.inside.tables.items c.as_mut_slice.result.now c.args.self.now c.args.table
    c.self.view_is (c.as_slice.ensures ∙ ap (λ (k : Catalog). k.tables) c.deref-catalog.ensures) c.as_mut_slice.ensures.value c.insert_at.ensures.answer

pub returns-clause-state : goal.returns-clause-state
returns-clause-state g c =
    held_by (λ rows. arc_value rows) (λ t rows. inserted t c.args.cells rows)
    (arc_value c.self.inside.catalog) c.as_slice.result.now c.self.inside.tables.items c.as_mut_slice.result.now c.insert_at.new.tables _ c.args.self.now c.args.table c.insert_at.result
    c.self.view_is (c.as_slice.ensures ∙ ap (λ (k : Catalog). k.tables) c.deref-catalog.ensures) c.as_mut_slice.ensures.value
    (with_items_is c.self.inside.tables c.insert_at.new.tables (omega arith)) c.insert_at.ensures.state
