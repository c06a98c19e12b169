use Rattle.std.proofs.Common.{◌≡◌, [], map, drop}
use Rattle.query_model.specs.Refusals.{first_of}
use Rattle.query_model.specs.OrderFaults.{order_key_fault}
use Rattle.selection_check.proofs.orders.order_keys_fault.Given as goal

abbrev pub invariant-loop-pair : goal.invariant-loop-pair
invariant-loop-pair l =
    let judge = order_key_fault [] l.view l.table in
    first_of (map judge (drop l.pair-index l.pairs)) ≡ first_of (map judge l.pairs)
