use Rattle.std.proofs.Common.{◌≡◌, IfOk, subst}
use Rattle.plan_model.specs.declared.plan.Plan.{Plan}
use Rattle.plan_model.specs.Planned.{planned}
use Rattle.row_store.specs.Held.{Held}
use Rattle.nested_eval.proofs.outcome.eval_counted.Goals as goal

pub returns-clause-outcome : goal.returns-clause-outcome
returns-clause-outcome g c =
    let b = c.args.binding.now in
    subst (λ (p : Plan). IfOk c.outcome.result (λ o. o ≡ planned p b c.args.snapshot.now.tables)) c.in_ok-prepared.ensures.plan
    (subst (λ (h : Held). IfOk c.outcome.result (λ o. o ≡ planned c.in_ok-prepared.prepared.plan b h.tables)) c.in_ok-prepared.ensures.snapshot
    c.outcome.ensures)
