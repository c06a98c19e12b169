use Rattle.std.proofs.Common.{◌≡◌, drop}
use Rattle.std.specs.List.{list_any}
use Rattle.role_model.specs.MetadataFaults.{table_lacks_a_column}
use Rattle.metadata_read.proofs.faults.has_no_column.Given as goal

abbrev pub invariant-loop-table : goal.invariant-loop-table
invariant-loop-table l = list_any (table_lacks_a_column l.document.tables) (drop l.table-index l.table-items) ≡ list_any (table_lacks_a_column l.document.tables) l.document.tables
