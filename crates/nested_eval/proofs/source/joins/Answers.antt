use Rattle.std.proofs.Common.{◌∙◌, sym}
use Rattle.nested_eval.proofs.Joins.{left_over}
use Rattle.nested_eval.proofs.source.joins.Goals as goal

pub returns-in_default : goal.returns-in_default
returns-in_default c =
    sym (left_over c.args.parent.now c.args.row.now c.args.from.now c.loop-column.column-index c.loop-column.rest.now c.loop-column-test.true c.in_default.len_below) ∙ c.loop-column.invariant
