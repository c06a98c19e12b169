use Rattle.std.proofs.Common.{◌≡◌, drop, find}
use Rattle.std.specs.Str.{bytes_eq}
use Rattle.query_model.specs.Names.{pair_name}
use Rattle.condition_plan.proofs.arguments.pair_named.Given as goal

abbrev pub invariant-loop-pair : goal.invariant-loop-pair
invariant-loop-pair l =
    find (λ p. bytes_eq l.name (pair_name p)) (drop l.pair-index l.pairs)
    ≡ find (λ p. bytes_eq l.name (pair_name p)) l.pairs
