use Rattle.std.proofs.Common.{◌∙◌, List, map, ap}
use Rattle.batch_rel.specs.declared.relation.RelRow.{RelRow}
use Rattle.plan_model.specs.declared.plan.Plan.{Plan}
use Rattle.plan_model.specs.Outcomes.{Outcome}
use Rattle.plan_model.specs.Planned.{planned}
use Rattle.row_store.specs.Held.{Held}
use Rattle.batch_join.proofs.batch.eval_batch.Goals as goal

abbrev results : Plan → Held → List RelRow → List Outcome
results p h rows = map (λ (row : RelRow). planned p row.binding h.tables) rows

pub returns-clause-outcomes : goal.returns-clause-outcomes
returns-clause-outcomes g c =
    let prepared = c.in_ok-prepared.prepared in
    c.from_vec.ensures ∙ c.in_ok-outcomes.ensures ∙ ap (results prepared.plan prepared.snapshot) c.as_slice.ensures.rows
    ∙ ap (λ (p : Plan). results p prepared.snapshot c.args.relation.now) c.in_ok-prepared.ensures.plan
    ∙ ap (λ (h : Held). results c.args.plan.now h c.args.relation.now) c.in_ok-prepared.ensures.snapshot
