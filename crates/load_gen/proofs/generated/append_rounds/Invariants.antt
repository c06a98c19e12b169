use Rattle.std.proofs.Common.{◌≡◌, ◌-◌, ◌++◌}
use Rattle.std.specs.List.{flat_map, range_with_len}
use Rattle.wire_model.specs.Generated.{ended, round_lines}
use Rattle.load_gen.proofs.generated.append_rounds.Given as goal

-- what is written so far, and then the rounds that are left
abbrev pub invariant-loop-round : goal.invariant-loop-round
invariant-loop-round l =
    l.out.items ++ flat_map (λ r. flat_map ended (round_lines l.n r)) (range_with_len l.round (11 - l.round))
    ≡ l.fn.out.items ++ flat_map (λ r. flat_map ended (round_lines l.n r)) (range_with_len 1 10)
