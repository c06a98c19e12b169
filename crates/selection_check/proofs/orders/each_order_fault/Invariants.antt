use Rattle.std.proofs.Common.{◌≡◌, [], map, drop}
use Rattle.query_model.specs.Refusals.{first_of}
use Rattle.query_model.specs.OrderFaults.{order_fault}
use Rattle.selection_check.proofs.orders.each_order_fault.Given as goal

abbrev pub invariant-loop-item : goal.invariant-loop-item
invariant-loop-item l =
    let judge = order_fault [] l.view l.table in
    first_of (map judge (drop l.item-index l.items)) ≡ first_of (map judge l.items)
