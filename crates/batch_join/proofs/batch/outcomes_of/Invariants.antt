use Rattle.std.proofs.Common.{◌≡◌, ◌++◌, map, drop}
use Rattle.std.specs.List.{AllByRecursion}
use Rattle.batch_rel.specs.declared.relation.RelRow.{RelRow}
use Rattle.plan_model.specs.BindingFits.{BindingFits}
use Rattle.plan_model.specs.Planned.{planned}
use Rattle.batch_join.proofs.batch.outcomes_of.Given as goal

abbrev pub invariant-loop-row : goal.invariant-loop-row
invariant-loop-row l =
    let result = λ (row : RelRow). planned l.prepared.plan row.binding l.prepared.snapshot.tables in
    let rest = drop l.row-index l.rows in
    record {
      told : l.outcomes.items ++ map result rest ≡ map result l.rows;
      fits : AllByRecursion (λ (row : RelRow). BindingFits l.prepared.plan row.binding) rest;
    }
