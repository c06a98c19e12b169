use Rattle.std.proofs.Common.{◌≡◌, drop}
use Rattle.std.specs.Cmp.Lexicographic.{slice_cmp}
use Rattle.scalar_val.specs.ValOrder.{val_cmp}
use Rattle.cohort_map.proofs.order.compare_values.Given as goal

abbrev pub invariant-loop-value : goal.invariant-loop-value
invariant-loop-value l = slice_cmp val_cmp (drop l.value-index l.a) l.rest ≡ slice_cmp val_cmp l.a l.b
