use Rattle.nested_eval.proofs.Examples.{plan_fits}
use Rattle.nested_eval.proofs.tests.evaluate.Goals as goal

pub eval-requires-clause-plan : goal.eval-requires-clause-plan
eval-requires-clause-plan c =
    plan_fits c.args.plan.now c.requires.names c.requires.root c.args.snapshot.now.catalog c.requires.tables

pub eval-requires-clause-binding : goal.eval-requires-clause-binding
eval-requires-clause-binding c = c.requires.root.values c.args.binding.now
