use Rattle.std.proofs.Common.{◌∙◌, sym, map}
use Rattle.gql_canon.specs.Names.{compare_names}
use Rattle.gql_canon.proofs.OrderRules.{placed_here, placed_behind, at_mapped, below_mapped}
use Rattle.gql_canon.proofs.tests.place.Goals as goal

pub returns-then-is_before-clause-placed : goal.returns-then-is_before-clause-placed
returns-then-is_before-clause-placed c =
    placed_here compare_names c.args.pair.now c.index-pairs-index.result.now (map (λ p. p.now) c.args.pairs.now) _
    c.loop-index.index
    (below_mapped (λ p. p.now) c.args.pairs.now c.loop-index.index c.loop-index-test.true)
    (at_mapped (λ p. p.now) c.args.pairs.now c.loop-index.index c.index-pairs-index.result c.loop-index-test.true
    c.index-pairs-index.is)
    (sym c.is_before.ensures ∙ c.if-is_before.true) c.loop-index.invariant

pub loop-index-preserved : goal.loop-index-preserved
loop-index-preserved c =
    placed_behind compare_names c.args.pair.now c.index-pairs-index.result.now (map (λ p. p.now) c.args.pairs.now) _
    c.loop-index.index
    (below_mapped (λ p. p.now) c.args.pairs.now c.loop-index.index c.loop-index-test.true)
    (at_mapped (λ p. p.now) c.args.pairs.now c.loop-index.index c.index-pairs-index.result c.loop-index-test.true
    c.index-pairs-index.is)
    (sym c.is_before.ensures ∙ c.if-is_before.false) c.loop-index.invariant
