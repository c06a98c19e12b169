use Rattle.std.proofs.Common.{◌≡◌, ◌≤◌, ◌+◌, ◌*◌, ◌||◌, ◌&&◌, not, ℕ, length, take}
use Rattle.gql_scope.specs.Graph.{is_in, is_marked, unmarked}
use Rattle.gql_scope.proofs.graph.mark_all.Given as goal

abbrev pub invariant-loop-target : goal.invariant-loop-target
invariant-loop-target l =
    record {
      len : length l.marks.items ≡ length l.fn.marks.items;
      marked : (k : ℕ) → is_marked l.marks.items k
          ≡ (is_marked l.fn.marks.items k || is_in k (take l.target-index l.targets));
      waits : (k : ℕ) → is_in k l.waiting.items
          ≡ (is_in k l.fn.waiting.items || (not (is_marked l.fn.marks.items k)
          && is_in k (take l.target-index l.targets)));
      left : 2 * unmarked l.marks.items + length l.waiting.items ≤ 2 * unmarked l.fn.marks.items
          + length l.fn.waiting.items;
    }
