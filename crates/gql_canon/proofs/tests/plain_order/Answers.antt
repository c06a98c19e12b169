use Rattle.std.proofs.Common.{arith, ◌≡◌, ◌∙◌, ◌-◌, ◌+◌, ap, length, get_or}
use Rattle.gql_canon.specs.Names.{compare_names}
use Rattle.gql_canon.proofs.OrderRules.{inserted}
use Rattle.gql_canon.proofs.tests.plain_order.Goals as goal

pub loop-turn-preserved : goal.loop-turn-preserved
loop-turn-preserved c =
    let pairs = c.args.pairs.now in
    let at : length pairs - 1 - c.loop-turn.turn ≡ length pairs - (c.loop-turn.turn + 1) = omega arith in
    inserted compare_names (λ p. p.now) pairs c.loop-turn.ordered.items c.as_slice.result.now c.insert.new.self.items _
    c.place-index.result (length pairs - (c.loop-turn.turn + 1)) (length pairs - c.loop-turn.turn)
    c.in_ok-insert.ensures.items c.as_slice.ensures.value c.place-index.ensures.placed c.loop-turn.invariant
    (omega (arith, c.loop-turn-test.true)) (omega (arith, c.loop-turn-test.true))
    (c.index-pairs-pairs.is ∙ ap (λ j. get_or pairs j c.index-pairs-pairs.result) at)
