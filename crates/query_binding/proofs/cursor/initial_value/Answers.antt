use Rattle.std.proofs.Common.{ap, ◌∙◌, subst}
use Rattle.std.specs.Prelude.{IfOk, ◌≡◌, Option}
use Rattle.scalar_val.specs.declared.val.Kind.{Kind}
use Rattle.request_model.specs.declared.document.GPair.{GPair}
use Rattle.query_model.specs.Names.{initial_column, kind_of, pair_value}
use Rattle.query_model.specs.Variables.{value_read}
use Rattle.query_model.specs.Admission.{initial_value}
use Rattle.query_binding.proofs.cursor.initial_value.Goals as goal

pub returns : goal.returns
returns c =
    let vars = c.args.vars.now in
    let view = c.args.view.now in
    let table = c.args.table in
    let args = c.args.args.now in
    let kind : c.kind_of.result ≡ kind_of view table (initial_column view table args) =
    c.kind_of.ensures ∙ ap (kind_of view table) c.initial_column-column.ensures in
    subst (λ (o : Option GPair). IfOk c.value_read.result (λ val. val ≡ initial_value vars view table args o))
    c.in-Some.ensures
    (subst (λ (k : Kind). IfOk c.value_read.result (λ val. val ≡ value_read vars k (pair_value c.in-Some.pair.now))) kind
    c.value_read.ensures)
