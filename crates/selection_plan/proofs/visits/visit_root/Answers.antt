use Rattle.std.proofs.Common.{◌∙◌, ap, sym, flat_map}
use Rattle.std.proofs.lemmas.Result.{on_ok_weaker}
use Rattle.request_model.specs.declared.flat.FlatField.TheViews.{out-FlatField}
use Rattle.query_model.specs.Names.{root_meant}
use Rattle.query_model.specs.Queries.{tables_below, root_tables, root_of}
use Rattle.selection_plan.specs.SlotRefs.{slots_in}
use Rattle.selection_plan.specs.Gathered.{gathered_on}
use Rattle.selection_plan.proofs.Tables.{below_root, root_is}
use Rattle.selection_plan.proofs.visits.visit_root.Goals as goal

pub returns-in_ok-visit_table-in-RowsOf-clause-slots :
    goal.returns-in_ok-visit_table-in-RowsOf-clause-slots
returns-in_ok-visit_table-in-RowsOf-clause-slots c =
    on_ok_weaker c.visit_fields.result
    (λ e. below_root c.args.view.now c.in-RowsOf.table (out-FlatField c.args.field.now).fields (root_of c.args.view.now c.args.word c.args.field.now)
    (slots_in c.args.visited.now.slots) (slots_in c.visit_table.new.visited.slots) (slots_in c.visit_fields.new.visited.slots)
    (ap (λ r. root_tables c.args.view.now r (out-FlatField c.args.field.now).fields) (ap (root_meant c.args.view.now c.args.word) (sym c.as_str.ensures) ∙ sym c.root.ensures)
    ∙ root_is c.args.view.now c.in-RowsOf.table (out-FlatField c.args.field.now).fields c.root.result c.in-RowsOf.is)
    c.in_ok-visit_table-in-RowsOf.ensures.slots
    (e ∙ ap (λ fs. gathered_on c.args.view.now (flat_map (tables_below c.args.view.now c.in-RowsOf.table) fs) (slots_in c.visit_table.new.visited.slots)) c.as_slice.ensures))
    c.visit_fields.ensures.slots
