use Rattle.std.proofs.Common.{◌+◌, ◌*◌, length}
use Rattle.gql_scope.specs.Graph.{unmarked}
use Rattle.gql_scope.proofs.GraphRules.{Marking}
use Rattle.gql_scope.proofs.graph.reached.Given as goal

abbrev pub invariant-loop-next : goal.invariant-loop-next
invariant-loop-next l = Marking l.edges l.start l.marks.items l.waiting.items

abbrev pub decreases-loop-next : goal.decreases-loop-next
decreases-loop-next l = 2 * unmarked l.marks.items + length l.waiting.items
