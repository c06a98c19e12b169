use Rattle.std.proofs.Common.{◌∙◌, refl, arith}
use Rattle.cohort_map.proofs.Entering.{below_more}
use Rattle.cohort_map.proofs.tests.filled.Goals as goal

pub loop-value-preserved : goal.loop-value-preserved
loop-value-preserved c =
    let bound = c.loop-value.invariant.bound in
    record {
      below = below_more c.loop-value.map.entries c.join.new.self.entries c.loop-value.next _ refl c.loop-value.invariant.below c.in_ok-join.ensures.ok;
      ready = c.join.ensures.ready ∙ c.loop-value.invariant.ready;
      bound = omega arith;
    }
