use Rattle.std.proofs.Common.{◌∙◌}
use Rattle.std.proofs.lemmas.Result.{IfOk-weaker}
use Rattle.gql_scope.proofs.ReachRules.{edges_all_below, cycle_is}
use Rattle.gql_scope.proofs.refusals.has_fragment_cycle.Goals as goal

pub has_cycle-requires-clause-edges : goal.has_cycle-requires-clause-edges
has_cycle-requires-clause-edges c = edges_all_below c.args.scope.now.fragments c.as_slice.result.now
    (c.as_slice.ensures.value ∙ c.requires.edges)

pub returns : goal.returns
returns c =
    IfOk-weaker c.has_cycle.result _ _
    (λ found h. cycle_is c.args.scope.now.fragments c.args.operation.now.select c.args.reach.now.marks.items
    c.as_slice-2.result.now c.as_slice.result.now found c.requires.marks
    (c.as_slice.ensures.value ∙ c.requires.edges) c.as_slice-2.ensures.value h)
    c.has_cycle.ensures
