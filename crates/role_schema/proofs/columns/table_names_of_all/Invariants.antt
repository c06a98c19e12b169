use Rattle.std.proofs.Common.{◌≡◌, drop, map}
use Rattle.std.specs.List.{fold}
use Rattle.role_model.specs.JsonFilters.{with_text}
use Rattle.role_schema.specs.ColumnNames.{names_of_tables}
use Rattle.role_schema.proofs.columns.table_names_of_all.Given as goal

abbrev pub invariant-loop-table : goal.invariant-loop-table
invariant-loop-table l =
    fold with_text l.names (map (λ t. t.name) (drop l.table-index l.tables)) ≡ names_of_tables l.tables
