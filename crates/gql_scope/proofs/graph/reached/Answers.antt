use Rattle.std.proofs.Common.{arith, ◌∙◌, ◌||◌, ◌&&◌, not, ap}
use Rattle.gql_scope.specs.Graph.{is_in, is_marked}
use Rattle.gql_scope.proofs.GraphRules.{begun, gone_on, targets_within, done, none_left}
use Rattle.gql_scope.proofs.graph.reached.Goals as goal

pub loop-next-init : goal.loop-next-init
loop-next-init c =
    begun c.args.edges.now c.args.start.now c.in_ok-marks.marks.items c.mark_all.new.marks.items
    c.new-waiting.result.items c.mark_all.new.waiting.items
    c.new-waiting.ensures.items c.in_ok-marks.ensures.len c.in_ok-marks.ensures.none c.in_ok-mark_all.ensures.len
    c.in_ok-mark_all.ensures.marked c.in_ok-mark_all.ensures.waits

pub mark_all-requires-in-Some : goal.mark_all-requires-in-Some
mark_all-requires-in-Some c = targets_within c.args.edges.now c.args.start.now c.loop-next.marks.items
    c.loop-next.waiting.items _ c.in-Some.next c.loop-next.invariant c.requires.edges c.targets_at.ensures

pub loop-next-preserved : goal.loop-next-preserved
loop-next-preserved c =
    let marks = c.loop-next.marks.items in
    gone_on c.args.edges.now c.args.start.now marks c.mark_all-in-Some.new.marks.items c.loop-next.waiting.items
    c.pop.new.self.items c.mark_all-in-Some.new.waiting.items c.in-Some.next
    c.loop-next.invariant c.in-Some.ensures.items c.in_ok-mark_all-2.ensures.len
    (λ k. c.in_ok-mark_all-2.ensures.marked k ∙ ap (λ ts. is_marked marks k || is_in k ts) c.targets_at.ensures)
    (λ k. c.in_ok-mark_all-2.ensures.waits k ∙ ap (λ ts. is_in k c.pop.new.self.items
    || (not (is_marked marks k) && is_in k ts)) c.targets_at.ensures)

pub returns-clause-marked : goal.returns-clause-marked
returns-clause-marked c = done c.args.edges.now c.args.start.now c.loop-next.marks.items c.loop-next.waiting.items
    (none_left c.loop-next.waiting.items (omega (arith, c.loop-next.waiting.ok.0, c.in_default.ensures.cases.0)))
    c.loop-next.invariant
