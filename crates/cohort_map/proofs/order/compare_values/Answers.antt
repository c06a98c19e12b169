use Rattle.std.proofs.Common.{◌∙◌, sym}
use Rattle.scalar_val.specs.ValOrder.{val_cmp}
use Rattle.cohort_map.proofs.Longer.{longer}
use Rattle.cohort_map.proofs.order.compare_values.Goals as goal

pub returns-in_default : goal.returns-in_default
returns-in_default c = sym (longer val_cmp c.args.a.now c.loop-value.value-index c.loop-value.rest.now c.loop-value-test.true c.in_default.len_below) ∙ c.loop-value.invariant
