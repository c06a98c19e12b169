use Rattle.std.proofs.Common.{◌≡◌, map, take, length}
use Rattle.gql_canon.proofs.same.same_refs.Given as goal

-- what is passed is the same
abbrev pub invariant-loop-index : goal.invariant-loop-index
invariant-loop-index l = (take l.index (map (λ p. p.now) l.a) ≡ take l.index (map (λ p. p.now) l.b))
    × (length l.a ≡ length l.b)
