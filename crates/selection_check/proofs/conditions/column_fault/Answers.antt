use Rattle.std.proofs.Common.{◌∙◌, ℕ, Option, sym, ap}
use Rattle.request_model.specs.declared.document.GValue.{GValue}
use Rattle.request_model.specs.declared.document.GValue.TheVariants as v
use Rattle.role_model.specs.Roles.{column_seen}
use Rattle.query_model.specs.ConditionFaults.{column_fault}
use Rattle.selection_check.proofs.Forms.{column-Object}
use Rattle.selection_check.proofs.conditions.column_fault.Goals as goal

pub returns-in-Object : goal.returns-in-Object
returns-in-Object c =
    let vars = c.args.vars.now in
    let view = c.args.view.now in
    let table = c.args.table in
    let name = c.args.name.now in
    (rw (c.kind_of.ensures, c.as_slice.ensures) at (c.operators_fault.ensures view))
    ∙ sym (column-Object vars view table name c.in-Some.column c.in-Object.pairs)
    ∙ ap (λ (o : Option ℕ). column_fault vars view table name (v.Object c.in-Object.pairs) o) c.in-Some.ensures.value
    ∙ ap (λ (x : GValue). column_fault vars view table name x (column_seen view table name)) (sym c.in-Object.is)
