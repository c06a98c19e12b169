use Rattle.std.proofs.Common.{◌≡◌, ◌++◌, map, take, drop}
use Rattle.scalar_val.specs.Ordered.{placed}
use Rattle.gql_canon.specs.Names.{compare_names}
use Rattle.gql_canon.proofs.tests.place.Given as goal

-- the pair goes behind those that are passed
abbrev pub invariant-loop-index : goal.invariant-loop-index
invariant-loop-index l =
    let names = map (λ p. p.now) l.pairs in
    take l.index names ++ placed compare_names l.pair (drop l.index names) ≡ placed compare_names l.pair names
