use Rattle.std.proofs.Common.{◌≡◌, map, take}
use Rattle.role_schema.specs.ColumnNames.{names_in_table}
use Rattle.role_schema.proofs.columns.column_names_of_all.Given as goal

abbrev pub invariant-loop-table : goal.invariant-loop-table
invariant-loop-table l = l.names ≡ map names_in_table (take l.table-index l.tables)
