use Rattle.std.proofs.Common.{◌≡◌, subst, map, IfOk}
use Rattle.plan_model.specs.declared.plan.Plan.{Plan}
use Rattle.plan_model.specs.Planned.{planned}
use Rattle.batch_rel.specs.declared.relation.RelRow.{RelRow}
use Rattle.subs_engine.proofs.free.FreeGateGate.batch.Goals as goal

pub returns-clause-outcomes : goal.returns-clause-outcomes
returns-clause-outcomes g c =
    let job = c.args.job.now in
    subst (λ (plan : Plan). IfOk c.eval_batch.result (λ outcomes. outcomes
    ≡ map (λ (row : RelRow). planned plan row.binding job.snapshot.tables) job.relation))
    c.plan.ensures c.eval_batch.ensures.outcomes
