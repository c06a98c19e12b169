use Rattle.std.proofs.Common.{◌≡◌, ℕ, false, length}
use Rattle.gql_scope.specs.Graph.{is_marked}
use Rattle.gql_scope.proofs.graph.no_marks.Given as goal

abbrev pub invariant-loop-edge : goal.invariant-loop-edge
invariant-loop-edge l = (length l.marks.items ≡ l.edge-index) × ((k : ℕ) → is_marked l.marks.items k ≡ false)
