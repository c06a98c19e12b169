use Rattle.std.proofs.Common.{◌∙◌, ◌+◌, refl}
use Rattle.cohort_map.proofs.Entering.{below_more}
use Rattle.cohort_map.proofs.tests.numbered.Goals as goal

pub loop-variable-preserved : goal.loop-variable-preserved
loop-variable-preserved c = record {
  below = below_more c.loop-variable.map.entries c.join.new.self.entries (c.loop-variable.variable + 1) _ refl
      c.loop-variable.invariant.below c.in_ok-join.ensures.ok;
  ready = c.join.ensures.ready ∙ c.loop-variable.invariant.ready;
}
