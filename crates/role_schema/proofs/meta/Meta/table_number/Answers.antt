use Rattle.std.proofs.Common.{◌∙◌, ap, position}
use Rattle.std.specs.Str.{bytes_eq}
use Rattle.data_model.specs.declared.catalog.TableDef.{TableDef}
use Rattle.role_model.specs.declared.metadata.Metadata.{Metadata}
use Rattle.role_schema.proofs.ColumnNames.{table_placed, within}
use Rattle.role_schema.proofs.Soundness.{names_are_own}
use Rattle.role_schema.proofs.meta.Meta.table_number.Goals as goal

pub returns-clause-value : goal.returns-clause-value
returns-clause-value c =
    let name = c.args.name.now in
    let said = c.self.inside.said in
    table_placed name said.catalog.tables c.self.inside.table_names c.place.result
    (names_are_own said c.self.invariant.0).tables c.self.invariant.2 c.place.ensures.first
    ∙ ap (λ (m : Metadata). position (λ (t : TableDef). bytes_eq name t.name) m.catalog.tables) c.self.view_is

pub returns-clause-bound : goal.returns-clause-bound
returns-clause-bound c =
    within (λ (t : TableDef). bytes_eq c.args.name.now t.name) c.args.self.now.catalog.tables c.place.result
    (returns-clause-value c)
