use Rattle.std.proofs.Common.{◌≡◌, map, take}
use Rattle.gql_canon.proofs.ordered.refs_of.Given as goal

-- those that are passed
abbrev pub invariant-loop-pair : goal.invariant-loop-pair
invariant-loop-pair l = map (λ p. p.now) l.refs.items ≡ take l.pair-index l.pairs
