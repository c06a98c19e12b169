use Rattle.std.proofs.Common.{arith}
use Rattle.std.proofs.lemmas.Grind.{common_steps}
use Rattle.plan_core.proofs.Truths.{parts, list_all-more}
use Rattle.plan_core.proofs.condition.equals_operand.Goals as goal

pub loop-operand-preserved : goal.loop-operand-preserved
loop-operand-preserved c =
    record {
      told = grind
          (arith, common_steps, parts);
      fitting =
          list_all-more _ c.args.operands.now c.loop-operand.operand-index c.operand-item.result
          (omega arith) c.loop-operand.invariant.fitting;
    }
