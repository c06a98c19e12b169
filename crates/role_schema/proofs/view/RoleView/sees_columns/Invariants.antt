use Rattle.std.proofs.Common.{◌≡◌, drop}
use Rattle.std.specs.List.{list_all}
use Rattle.role_model.specs.Roles.{sees_column}
use Rattle.role_schema.proofs.view.RoleView.sees_columns.Given as goal

abbrev pub invariant-loop-column : goal.invariant-loop-column
invariant-loop-column l = list_all (sees_column l.self l.table) (drop l.column-index l.columns) ≡ list_all (sees_column l.self l.table) l.columns
