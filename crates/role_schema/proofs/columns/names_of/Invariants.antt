use Rattle.std.proofs.Common.{◌≡◌, drop, map}
use Rattle.std.specs.List.{fold}
use Rattle.role_model.specs.JsonFilters.{with_text}
use Rattle.role_schema.specs.ColumnNames.{names_of_columns}
use Rattle.role_schema.proofs.columns.names_of.Given as goal

abbrev pub invariant-loop-column : goal.invariant-loop-column
invariant-loop-column l =
    fold with_text l.names (map (λ c. c.name) (drop l.column-index l.columns)) ≡ names_of_columns l.columns
