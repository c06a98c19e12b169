use Rattle.std.proofs.Common.{refl}
use Rattle.request_model.specs.Selection.{Differ}
use Rattle.gql_flat.proofs.FieldRules.{some_here, some_later}
use Rattle.gql_scope.proofs.ReachRules.{not_so}
use Rattle.gql_flat.proofs.fields.some_differ_in_order.Goals as goal

pub returns-then-found : goal.returns-then-found
returns-then-found c = (
  λ _. some_here (Differ c.args.first.now) c.args.others.now c.loop-field.field-index c.field-item.result
      c.loop-field-test.true c.field-item.is c.loop-field.invariant (c.in_ok-found.ensures.0 c.if-found.true),
  λ _. refl,
)

pub loop-field-preserved : goal.loop-field-preserved
loop-field-preserved c =
    some_later (Differ c.args.first.now) c.args.others.now c.loop-field.field-index c.field-item.result
    c.loop-field-test.true c.field-item.is
    (not_so _ _ c.in_ok-found.ensures c.if-found.false) c.loop-field.invariant
