use Rattle.std.proofs.Common.{◌≡◌, take, length}
use Rattle.gql_canon.proofs.same.+same.Given as goal

-- what is passed is the same
abbrev pub invariant-same_values-loop-index : goal.invariant-same_values-loop-index
invariant-same_values-loop-index l = (take l.index l.a ≡ take l.index l.b) × (length l.a ≡ length l.b)

abbrev pub invariant-same_pairs-loop-index : goal.invariant-same_pairs-loop-index
invariant-same_pairs-loop-index l = (take l.index l.a ≡ take l.index l.b) × (length l.a ≡ length l.b)
