use Rattle.std.proofs.Common.{◌∙◌, ◌+◌, ◌++◌, map, drop, ap, arith}
use Rattle.batch_rel.specs.declared.relation.RelRow.{RelRow}
use Rattle.plan_model.specs.BindingFits.{BindingFits}
use Rattle.plan_model.specs.Outcomes.{Outcome}
use Rattle.plan_model.specs.Planned.{planned}
use Rattle.batch_join.proofs.Rest.{result_more, rest_all}
use Rattle.batch_join.proofs.batch.outcomes_of.Goals as goal

pub loop-row-preserved : goal.loop-row-preserved
loop-row-preserved c =
    let rows = c.args.rows.now in
    let i = c.loop-row.row-index in
    let row = c.row-item.result in
    let result : RelRow → Outcome = λ row. planned c.args.prepared.now.plan row.binding c.args.prepared.now.snapshot.tables in
    record {
      told = ap (λ os. os ++ map result (drop (i + 1) rows)) c.in_ok-push.ensures.items
          ∙ result_more result c.loop-row.outcomes.items c.in_ok-outcome.field-0 rows i row (map result rows) (omega arith) c.row-item.is c.in_ok-outcome.ensures c.loop-row.invariant.told;
      fits = rest_all (λ (row : RelRow). BindingFits c.args.prepared.now.plan row.binding) rows i row (omega arith) c.loop-row.invariant.fits;
    }
