use Rattle.std.proofs.Common.{◌∙◌, sym}
use Rattle.std.proofs.lemmas.Result.{on_ok_weaker}
use Rattle.gql_flat.proofs.CollectRules.{inline_adds}
use Rattle.gql_flat.proofs.WeightRules.{inline_falls}
use Rattle.gql_flat.proofs.collecting.collect_inline.Goals as goal

pub returns-clause-same : goal.returns-clause-same
returns-clause-same c =
    on_ok_weaker c.put.result
    (λ e. inline_adds c.args.scope.now c.args.stack.now.items c.put.new.stack.items c.args.depth _ c.args.on.now
    c.args.set.now c.args.found.now c.note_if.new.found
    (sym c.is_dropped.ensures ∙ c.if-is_dropped.false) c.in_ok-note_if.ensures e)
    c.put.ensures

pub returns-clause-falls : goal.returns-clause-falls
returns-clause-falls c =
    on_ok_weaker c.put.result (λ e. inline_falls c.args.scope.now.fragments c.args.stack.now.items c.put.new.stack.items
    c.args.depth c.args.set.now e) c.put.ensures
