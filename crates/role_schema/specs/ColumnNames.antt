-- The names of columns and of tables. This project's own.
use Rattle.std.specs.Prelude.{List, map}
use Rattle.data_model.specs.declared.catalog.Column.{Column}
use Rattle.data_model.specs.declared.catalog.TableDef.{TableDef}
use Rattle.role_model.specs.JsonFilters.{distinct}
use Rattle.role_model.specs.Texts.{Text}

-- the names of these columns, each once
abbrev pub names_of_columns : List Column → List Text
names_of_columns columns = distinct (map (λ (c : Column). c.name) columns)

abbrev pub names_in_table : TableDef → List Text
names_in_table t = names_of_columns t.columns

-- the names of these tables, each once
abbrev pub names_of_tables : List TableDef → List Text
names_of_tables tables = distinct (map (λ (t : TableDef). t.name) tables)
