use Rattle.std.proofs.Common.{◌≡◌, drop}
use Rattle.plan_model.specs.Taken.{rows_cmp}
use Rattle.nested_eval.proofs.order.compare_rows.Given as goal

abbrev pub invariant-loop-order : goal.invariant-loop-order
invariant-loop-order l = rows_cmp (drop l.order-index l.orders) l.a l.b ≡ rows_cmp l.orders l.a l.b
