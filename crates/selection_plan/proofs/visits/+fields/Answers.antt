use Rattle.std.proofs.Common.{◌∙◌, ap, sym, flat_map}
use Rattle.std.proofs.lemmas.Result.{on_ok_weaker}
use Rattle.query_model.specs.Queries.{tables_below}
use Rattle.query_model.specs.Names.{meant}
use Rattle.selection_plan.specs.Gathered.{gathered_on}
use Rattle.role_fields.specs.Said.{meant_said}
use Rattle.selection_plan.specs.SlotRefs.{slots_in}
use Rattle.selection_plan.proofs.Tables.{below_link, on_more}
use Rattle.selection_plan.proofs.visits.+fields.Goals as goal

pub visit_field-returns-in_ok-visit_table-in-ALink-clause-slots :
    goal.visit_field-returns-in_ok-visit_table-in-ALink-clause-slots
visit_field-returns-in_ok-visit_table-in-ALink-clause-slots t c =
    on_ok_weaker c.visit_fields.result
    (λ e. below_link c.args.view.now c.args.table c.args.field.now c.in-ALink.link.now (slots_in c.args.visited.now.slots) (slots_in c.visit_table.new.visited.slots)
    (slots_in c.visit_fields.new.visited.slots)
    (ap (meant c.args.view.now c.args.table) (sym c.as_str.ensures) ∙ sym c.meant.ensures ∙ ap meant_said c.in-ALink.is)
    c.in_ok-visit_table-in-ALink.ensures.slots
    (e ∙ ap (λ fs. gathered_on c.args.view.now (flat_map (tables_below c.args.view.now c.in-ALink.link.now.table) fs) (slots_in c.visit_table.new.visited.slots)) c.as_slice.ensures))
    c.visit_fields.ensures.slots

pub visit_fields-loop-field-preserved : goal.visit_fields-loop-field-preserved
visit_fields-loop-field-preserved t c = record {
  visited = c.in_ok-visit_field.ensures.visited;
  slots =
      on_more c.args.view.now (tables_below c.args.view.now c.args.table) c.args.fields.now c.loop-field.field-index c.field-item.result
      (slots_in c.loop-field.visited.slots) (slots_in c.visit_field.new.visited.slots) _ c.loop-field-test.true c.field-item.is
      c.in_ok-visit_field.ensures.slots c.loop-field.invariant.slots;
}
