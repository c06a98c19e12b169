use Rattle.std.proofs.Common.{refl}
use Rattle.request_model.specs.Selection.{Differ}
use Rattle.gql_flat.proofs.FieldRules.{some_here, some_later, some_left_over}
use Rattle.gql_scope.proofs.ReachRules.{not_so}
use Rattle.gql_flat.proofs.fields.some_differ.Goals as goal

pub returns-in-Some-true : goal.returns-in-Some-true
returns-in-Some-true c = (
  λ _. some_here (Differ c.args.first.now) c.args.others.now c.loop-index.index c.index-others-index.result
      c.loop-index-test.true c.index-others-index.is c.loop-index.invariant
      (c.in-Some-true.ensures.told.0 c.in-Some-true.field-0-test),
  λ _. refl,
)

pub returns-in-None : goal.returns-in-None
returns-in-None c = some_left_over (Differ c.args.first.now) c.args.others.now c.loop-index.index
    c.some_differ_in_order.result c.loop-index.invariant c.some_differ_in_order.ensures

pub loop-index-preserved : goal.loop-index-preserved
loop-index-preserved c =
    some_later (Differ c.args.first.now) c.args.others.now c.loop-index.index c.index-others-index.result
    c.loop-index-test.true c.index-others-index.is
    (not_so _ _ c.in-Some-false.ensures.told c.in-Some-false.field-0-test) c.loop-index.invariant
