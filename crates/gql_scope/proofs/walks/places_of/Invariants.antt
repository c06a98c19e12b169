use Rattle.std.proofs.Common.{◌≡◌, ◌++◌, map, drop, length, nat_lt}
use Rattle.std.specs.Prelude.{filter}
use Rattle.gql_scope.specs.Walks.{place_of}
use Rattle.gql_scope.proofs.walks.places_of.Given as goal

abbrev pub invariant-loop-name : goal.invariant-loop-name
invariant-loop-name l = l.places ++ filter (λ k. nat_lt k (length l.fragments))
    (map (place_of l.fragments) (map (λ n. n.now) (drop l.name-index l.names)))
    ≡ filter (λ k. nat_lt k (length l.fragments)) (map (place_of l.fragments) (map (λ n. n.now) l.names))
