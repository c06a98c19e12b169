use Rattle.std.proofs.Common.{◌∙◌, Option, map, sym, ap}
use Rattle.request_model.specs.declared.flat.FlatField.TheViews.{out-FlatField}
use Rattle.query_model.specs.declared.fault.QueryFault.{QueryFault}
use Rattle.query_model.specs.Names.{Meant}
use Rattle.query_model.specs.Refusals.{or_then, first_of}
use Rattle.query_model.specs.Walk.{field_fault, judging, meant_fault}
use Rattle.selection_check.proofs.Fields.{object-is, field-is}
use Rattle.selection_check.proofs.walk.+field.Goals as goal

pub object_fault-returns-in-None : goal.object_fault-returns-in-None
object_fault-returns-in-None t c =
    let vars = c.args.vars.now in
    let view = c.args.view.now in
    let f = out-FlatField c.args.field.now in
    (rw c.as_slice.ensures at c.fields_fault.ensures)
    ∙ ap (λ (o : Option QueryFault). or_then o (first_of (map (λ g. field_fault vars view g c.args.table) f.fields))) c.in-None.ensures
    ∙ sym (object-is vars view c.args.table c.args.known f)

pub field_fault-returns-in-ALink : goal.field_fault-returns-in-ALink
field_fault-returns-in-ALink t c =
    let vars = c.args.vars.now in
    let view = c.args.view.now in
    let f = judging vars view (out-FlatField c.args.field.now) in
    (rw (c.arguments_of.ensures.known vars view, c.arguments_of.ensures.required vars view) at c.object_fault.ensures)
    ∙ ap (λ (m : Meant). meant_fault vars view f m) (rw c.as_str.ensures at c.in-ALink.ensures)
    ∙ sym (field-is vars view c.args.table c.args.field.now)
