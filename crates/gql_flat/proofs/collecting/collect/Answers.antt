use Rattle.std.proofs.Common.{arith, ◌∙◌, ◌++◌, [], ap}
use Rattle.gql_flat.specs.Collecting.{of_stack, frames_of}
use Rattle.gql_flat.proofs.CollectRules.{put_adds, pop_adds, nothing_waits}
use Rattle.gql_flat.proofs.WeightRules.{pop_falls}
use Rattle.gql_flat.proofs.collecting.collect.Goals as goal

pub loop-frame-init : goal.loop-frame-init
loop-frame-init c =
    let s = c.args.scope.now in
    ap (λ fs. of_stack s fs c.args.found.now)
    (c.in_ok-put.ensures ∙ ap (λ fs. fs ++ frames_of c.args.depth c.args.set.now) c.new-stack.ensures.items)
    ∙ put_adds s [] c.args.depth c.args.set.now c.args.found.now

pub loop-frame-smaller : goal.loop-frame-smaller
loop-frame-smaller c =
    pop_falls c.args.scope.now.fragments c.loop-frame.stack.items c.pop.new.self.items c.turn.new.stack.items
    c.in-Some.frame c.in-Some.ensures.items c.in_ok-turn.ensures.falls

pub loop-frame-preserved : goal.loop-frame-preserved
loop-frame-preserved c =
    pop_adds c.args.scope.now c.loop-frame.stack.items c.pop.new.self.items c.turn.new.stack.items c.in-Some.frame
    c.loop-frame.found c.turn.new.found _ c.in-Some.ensures.items c.in_ok-turn.ensures.same c.loop-frame.invariant

pub returns : goal.returns
returns c = nothing_waits c.args.scope.now c.loop-frame.stack.items c.loop-frame.found _
    (omega (arith, c.loop-frame.stack.ok.0, c.in_default.ensures.cases.0)) c.loop-frame.invariant
