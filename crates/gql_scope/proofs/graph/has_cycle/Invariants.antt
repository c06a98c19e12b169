use Rattle.std.proofs.Common.{ℕ, ◌<◌, IsTrue}
use Rattle.gql_scope.specs.Graph.{is_marked, targets_at, Reaches}
use Rattle.gql_scope.proofs.graph.has_cycle.Given as goal

-- none so far reaches itself
abbrev pub invariant-loop-index : goal.invariant-loop-index
invariant-loop-index l = (k : ℕ) → k < l.index → IsTrue (is_marked l.marks k) →
    Reaches l.edges (targets_at l.edges k) k → ⊥
