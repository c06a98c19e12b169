use Rattle.std.proofs.Common.{◌≡◌, ◌++◌, drop}
use Rattle.std.specs.List.{filter_map}
use Rattle.query_model.specs.Conditions.{order_in}
use Rattle.condition_plan.proofs.order_by.push_orders.Given as goal

abbrev pub invariant-loop-pair : goal.invariant-loop-pair
invariant-loop-pair l =
    l.list ++ filter_map (order_in l.view l.table) (drop l.pair-index l.pair-items)
    ≡ l.fn.list ++ filter_map (order_in l.view l.table) l.pair-items
