use Rattle.std.proofs.Common.{◌∙◌, sym, arith}
use Rattle.row_store.proofs.SearchSteps.{held_here, free_here}
use Rattle.row_store.proofs.finding.find_row.Goals as goal

pub returns-then-has_key-clause-ok : goal.returns-then-has_key-clause-ok
returns-then-has_key-clause-ok c =
    held_here c.args.table.now c.args.key.now c.args.rows.now c.place_of-at.result c.index-rows-at.result c.requires (omega arith)
    c.place_of-at.ensures.below c.index-rows-at.is (sym c.has_key.ensures ∙ c.if-has_key.true)

pub returns-else-has_key-clause-err : goal.returns-else-has_key-clause-err
returns-else-has_key-clause-err c =
    free_here c.args.table.now c.args.key.now c.args.rows.now c.place_of-at.result c.index-rows-at.result c.requires (omega arith)
    c.place_of-at.ensures.below (c.place_of-at.ensures.rest c.place_of-at.result c.index-rows-at.result (omega arith) (omega arith)) c.index-rows-at.is (sym c.has_key.ensures ∙ c.if-has_key.false)
