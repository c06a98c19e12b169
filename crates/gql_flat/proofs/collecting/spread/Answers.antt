use Rattle.std.proofs.Common.{◌-◌, arith, sym, ap}
use Rattle.std.proofs.lemmas.Result.{on_ok_weaker}
use Rattle.request_model.specs.Selection.{Fragment}
use Rattle.gql_scope.proofs.TruthRules.{at_true}
use Rattle.gql_flat.proofs.CollectRules.{spread_adds}
use Rattle.gql_flat.proofs.WeightRules.{spread_falls}
use Rattle.gql_flat.proofs.collecting.spread.Goals as goal

pub returns-clause-same : goal.returns-clause-same
returns-clause-same c =
    let first = at_true _ _ _ c.if-not-first.false c.in_ok-first.ensures in
    on_ok_weaker c.put.result
    (λ e. spread_adds c.args.scope.now c.args.stack.now.items c.put.new.stack.items c.args.depth (c.args.depth - 1)
    c.args.name.now c.in-Some.fragment.now c.fragment-2.inside.select.now c.args.found.now c.visit.new.found
    (omega (arith, c.if-depth-eq0.false)) (sym c.in-Some.ensures) first.0 first.1
    (ap (λ (f : Fragment). f.select) c.fragment-2.view_is) e)
    c.put.ensures

pub returns-clause-falls : goal.returns-clause-falls
returns-clause-falls c =
    on_ok_weaker c.put.result
    (λ e. spread_falls c.args.scope.now.fragments c.args.stack.now.items c.put.new.stack.items c.args.depth
    (c.args.depth - 1) c.args.name.now c.in-Some.fragment.now c.fragment-2.inside.select.now
    (omega (arith, c.if-depth-eq0.false)) (sym c.in-Some.ensures) (ap (λ (f : Fragment). f.select) c.fragment-2.view_is)
    e)
    c.put.ensures
