use Rattle.gql_scope.proofs.GraphRules.{less_unmarked, read_false}
use Rattle.gql_scope.proofs.graph.mark.Goals as goal

pub returns-clause-left : goal.returns-clause-left
returns-clause-left c =
    less_unmarked c.args.marks.now.items c.args.waiting.now.items c.push.new.self.items c.args.target c.requires
    (read_false c.args.marks.now.items c.args.target c.index.result.now c.index.ensures c.if-index.false)
    c.in_ok-push.ensures.items
