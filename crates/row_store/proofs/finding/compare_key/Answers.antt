use Rattle.std.proofs.Common.{◌∙◌, sym}
use Rattle.row_store.proofs.SearchSteps.{longer_key}
use Rattle.row_store.proofs.finding.compare_key.Goals as goal

pub returns-in_default : goal.returns-in_default
returns-in_default c = sym (longer_key c.args.row.now c.args.columns.now c.loop-column.column-index c.loop-column.rest.now c.loop-column-test.true c.in_default.len_below) ∙ c.loop-column.invariant
