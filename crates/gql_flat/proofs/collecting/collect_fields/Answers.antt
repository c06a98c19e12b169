use Rattle.request_model.specs.Selection.{spreading}
use Rattle.gql_flat.proofs.CollectRules.{field_more}
use Rattle.gql_flat.proofs.collecting.collect_fields.Goals as goal

pub loop-field-preserved : goal.loop-field-preserved
loop-field-preserved c =
    let s = c.args.scope.now in
    field_more s (spreading s c.args.depth) c.args.fields.now c.loop-field.field-index c.field-item.result
    c.loop-field.found c.collect_selected.new.found _
    c.loop-field-test.true c.field-item.is c.in_ok-collect_selected.ensures c.loop-field.invariant
