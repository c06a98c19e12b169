use Rattle.std.proofs.Common.{arith}
use Rattle.std.proofs.lemmas.Grind.{common_steps}
use Rattle.selection_check.proofs.walk.conditions_fault.Goals as goal

pub returns-then-ne : goal.returns-then-ne
returns-then-ne c = λ view. let inv = c.loop-condition.invariant view in grind (arith, common_steps, inv)

pub loop-condition-preserved : goal.loop-condition-preserved
loop-condition-preserved c = λ view. let inv = c.loop-condition.invariant view in grind (arith, common_steps, inv)

pub returns : goal.returns
returns c = λ view. let inv = c.loop-condition.invariant view in grind (arith, common_steps, inv)
