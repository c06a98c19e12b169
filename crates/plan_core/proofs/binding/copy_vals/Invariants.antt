use Rattle.std.proofs.Common.{◌≡◌, take}
use Rattle.plan_core.proofs.binding.copy_vals.Given as goal

abbrev pub invariant-loop-val : goal.invariant-loop-val
invariant-loop-val l = l.copy ≡ take l.val-index l.vals
