use Rattle.std.proofs.Common.{◌∙◌, ap, option_and_then, List}
use Rattle.std.specs.List.{slice_get}
use Rattle.data_model.specs.declared.catalog.TableDef.{TableDef}
use Rattle.name_set.specs.Names.{Text, first_at}
use Rattle.role_model.specs.declared.metadata.Metadata.{Metadata}
use Rattle.role_model.specs.JsonFilters.{column_number}
use Rattle.role_schema.proofs.ColumnNames.{column_placed, column_within}
use Rattle.role_schema.proofs.Soundness.{names_are_own}
use Rattle.role_schema.proofs.meta.Meta.column_number.Goals as goal

pub returns-clause-value : goal.returns-clause-value
returns-clause-value c =
    let name = c.args.name.now in
    let table = c.args.table in
    let said = c.self.inside.said in
    let place = c.place_at.ensures ∙ ap (option_and_then (λ (ns : List Text). first_at ns name)) c.get.ensures.value in
    column_placed name said.catalog.tables c.self.inside.column_names table c.place_at.result
    (names_are_own said c.self.invariant.0).columns c.self.invariant.3 place
    ∙ ap (λ (m : Metadata). option_and_then (λ (t : TableDef). column_number t.columns name) (slice_get m.catalog.tables table))
    c.self.view_is

pub returns-clause-bound : goal.returns-clause-bound
returns-clause-bound c =
    column_within c.args.name.now (slice_get c.args.self.now.catalog.tables c.args.table) c.place_at.result
    (returns-clause-value c)
