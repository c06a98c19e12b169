use Rattle.std.proofs.Common.{sym}
use Rattle.row_store.proofs.SearchSteps.{no_unique}
use Rattle.row_store.proofs.finding.clashes.Goals as goal

pub returns-then-is_empty : goal.returns-then-is_empty
returns-then-is_empty c = sym (no_unique c.args.table.now c.args.cells.now c.args.rows.now (c.is_empty.ensures.0 c.if-is_empty.true))
