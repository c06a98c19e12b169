use Rattle.std.proofs.Common.{◌≡◌, ◌<◌, subst, length, get_or}
use Rattle.request_model.specs.declared.flat.FlatField.TheViews.{out-FlatField}
use Rattle.query_model.specs.Queries.{root_tables, root_of}
use Rattle.selection_plan.specs.SlotRefs.{slots_in}
use Rattle.selection_plan.proofs.Tables.{on_more}
use Rattle.selection_plan.proofs.visits.visit_roots.Goals as goal

pub loop-field-preserved : goal.loop-field-preserved
loop-field-preserved c = record {
  visited = c.in_ok-visit_root.ensures.visited;
  slots =
      on_more c.args.view.now (λ f. root_tables c.args.view.now (root_of c.args.view.now c.args.flat.now.kind f) (out-FlatField f).fields) c.args.flat.now.fields
      c.loop-field.field-index c.field-item.result (slots_in c.loop-field.visited.slots) (slots_in c.visit_root.new.visited.slots) _
      (subst (λ fs. c.loop-field.field-index < length fs) c.as_slice-field-items.ensures c.loop-field-test.true)
      (subst (λ fs. c.field-item.result ≡ get_or fs c.loop-field.field-index c.field-item.result) c.as_slice-field-items.ensures c.field-item.is) c.in_ok-visit_root.ensures.slots c.loop-field.invariant.slots;
}
