use Rattle.std.proofs.lemmas.Result.{IfOk-weaker}
use Rattle.gql_scope.specs.Walks.{fails}
use Rattle.gql_scope.proofs.ReachRules.{in_reach_is}
use Rattle.gql_scope.proofs.refusals.in_reach.Goals as goal

pub returns : goal.returns
returns c =
    let s = c.args.scope.now in
    IfOk-weaker c.reach_fails.result _ _
    (λ found e. in_reach_is s.fragments c.args.marks.now c.args.operation.now (fails c.args.check s) found
    c.requires.marks e)
    c.reach_fails.ensures
