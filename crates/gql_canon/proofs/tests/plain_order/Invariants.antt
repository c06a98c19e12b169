use Rattle.std.proofs.Common.{◌≡◌, ◌-◌, map, drop, length}
use Rattle.request_model.specs.Selection.{by_name}
use Rattle.gql_canon.proofs.tests.plain_order.Given as goal

-- the last pairs are in order
abbrev pub invariant-loop-turn : goal.invariant-loop-turn
invariant-loop-turn l = map (λ p. p.now) l.ordered.items ≡ by_name (drop (length l.pairs - l.turn) l.pairs)
