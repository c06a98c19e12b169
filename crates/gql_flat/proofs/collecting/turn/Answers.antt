use Rattle.std.proofs.lemmas.Result.{on_ok_weaker}
use Rattle.gql_flat.proofs.CollectRules.{parts, turn_adds}
use Rattle.gql_flat.proofs.WeightRules.{turn_falls}
use Rattle.gql_flat.proofs.collecting.turn.Goals as goal

pub returns-clause-same : goal.returns-clause-same
returns-clause-same c =
    let split = parts c.frame.inside.rest.now c.first-item.result c.in-len1-up.len_at_least c.first-item.is in
    on_ok_weaker c.collect_one.result
    (λ e. turn_adds c.args.scope.now c.args.stack.now.items c.put.new.stack.items c.collect_one.new.stack.items
    c.args.frame.now c.frame.inside.depth c.frame.inside.rest.now _ c.first-item.result
    c.args.found.now c.collect_one.new.found c.frame.view_is split c.in_ok-put.ensures e)
    c.collect_one.ensures.same

pub returns-clause-falls : goal.returns-clause-falls
returns-clause-falls c =
    let split = parts c.frame.inside.rest.now c.first-item.result c.in-len1-up.len_at_least c.first-item.is in
    on_ok_weaker c.collect_one.result
    (λ e. turn_falls c.args.scope.now.fragments c.args.stack.now.items c.put.new.stack.items
    c.collect_one.new.stack.items c.args.frame.now c.frame.inside.depth c.frame.inside.rest.now _
    c.first-item.result
    c.frame.view_is split c.in_ok-put.ensures e)
    c.collect_one.ensures.falls
