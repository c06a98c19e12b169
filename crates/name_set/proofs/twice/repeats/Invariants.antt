use Rattle.std.proofs.Common.{◌≡◌, map, drop}
use Rattle.name_set.specs.Names.{repeats}
use Rattle.name_set.proofs.RepeatRules.{some_again}
use Rattle.name_set.proofs.twice.repeats.Given as goal

abbrev pub invariant-loop-name : goal.invariant-loop-name
invariant-loop-name l = some_again l.seen (map (λ n. n.now) (drop l.name-index l.names))
    ≡ repeats (map (λ n. n.now) l.names)
