use Rattle.std.proofs.Common.{rules}
use Rattle.nested_eval.proofs.Orders.{sorted_seen}
use Rattle.nested_eval.proofs.order.in_order.Goals as goal

pub returns : goal.returns
returns c =
    sorted_seen c.args.orders.now c.args.rows.items c.sort_by.new.self.items c.in_ok-sort_by.ensures.sorted c.in_ok-sort_by.ensures.stable (λ a r f' k. search rules)
