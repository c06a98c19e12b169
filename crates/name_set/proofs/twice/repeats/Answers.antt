use Rattle.std.proofs.Common.{◌∙◌}
use Rattle.name_set.proofs.RepeatRules.{again_step_at}
use Rattle.name_set.proofs.twice.repeats.Goals as goal

pub loop-name-preserved : goal.loop-name-preserved
loop-name-preserved c =
    again_step_at c.args.names.now c.loop-name.name-index c.name-item.result c.in_ok-insert.field-0 c.loop-name.seen
    c.insert.new.self
    c.loop-name-test.true c.name-item.is c.if-not-branch.false c.in_ok-insert.ensures.new
    ∙ c.loop-name.invariant
