use Rattle.std.proofs.Common.{◌∙◌}
use Rattle.gql_scope.proofs.ReachRules.{edges_all_below, start_below}
use Rattle.gql_scope.proofs.refusals.reach_of.Goals as goal

pub reached-requires-clause-start : goal.reached-requires-clause-start
reached-requires-clause-start c =
    start_below c.scope.inside.fragments c.operation.inside.select.now c.as_slice.result.now c.as_slice-2.result.now
    (c.as_slice.ensures.value ∙ c.in_ok-edges.ensures) (c.as_slice-2.ensures ∙ c.in_ok-start.ensures)

pub reached-requires-clause-edges : goal.reached-requires-clause-edges
reached-requires-clause-edges c = edges_all_below c.scope.inside.fragments c.as_slice.result.now
    (c.as_slice.ensures.value ∙ c.in_ok-edges.ensures)
