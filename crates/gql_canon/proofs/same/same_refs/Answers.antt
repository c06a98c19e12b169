use Rattle.std.proofs.Common.{◌∙◌, sym}
use Rattle.gql_canon.proofs.OrderRules.{same_more, same_there}
use Rattle.gql_canon.proofs.same.same_refs.Goals as goal

pub returns-then-not-same_pair : goal.returns-then-not-same_pair
returns-then-not-same_pair c = (
  λ h. cc,
  λ e. sym c.if-not-same_pair.true ∙ c.same_pair.ensures.1
      (same_there (λ p. p.now) c.args.a.now c.args.b.now c.loop-index.index c.index-a-index.result
      c.index-b-index.result
      c.loop-index-test.true c.loop-index.invariant.1 c.index-a-index.is c.index-b-index.is e),
)

pub loop-index-preserved : goal.loop-index-preserved
loop-index-preserved c = (
  same_more (λ p. p.now) c.args.a.now c.args.b.now c.loop-index.index c.index-a-index.result c.index-b-index.result
      c.loop-index-test.true c.loop-index.invariant.1 c.index-a-index.is c.index-b-index.is
      (c.same_pair.ensures.0 c.if-not-same_pair.false) c.loop-index.invariant.0,
  c.loop-index.invariant.1,
)
