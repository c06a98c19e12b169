use Rattle.std.proofs.Common.{◌≡◌, ◌++◌, drop, flat_map}
use Rattle.std.specs.List.{filter_map}
use Rattle.query_model.specs.Names.{pairs_in}
use Rattle.query_model.specs.Conditions.{order_in}
use Rattle.condition_plan.proofs.order_by.orders.Given as goal

abbrev pub invariant-loop-item : goal.invariant-loop-item
invariant-loop-item l =
    l.list ++ flat_map (λ y. filter_map (order_in l.view l.table) (pairs_in y)) (drop l.item-index l.item-items)
    ≡ flat_map (λ y. filter_map (order_in l.view l.table) (pairs_in y)) l.item-items
