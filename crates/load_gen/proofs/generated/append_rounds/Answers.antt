use Rattle.std.proofs.Common.{◌++◌}
use Rattle.std.specs.List.{flat_map, range_with_len}
use Rattle.wire_model.specs.Generated.{ended, round_lines}
use Rattle.load_gen.proofs.Scripts.{one_more}
use Rattle.load_gen.proofs.generated.append_rounds.Goals as goal

pub loop-round-preserved : goal.loop-round-preserved
loop-round-preserved c =
    one_more (λ r. flat_map ended (round_lines c.args.n r)) c.loop-round.out.items c.append_round.new.out.items
    (c.args.out.now.items ++ flat_map (λ r. flat_map ended (round_lines c.args.n r)) (range_with_len 1 10)) c.loop-round.round 11 c.loop-round-test.true
    c.loop-round.invariant c.in_ok-append_round.ensures
