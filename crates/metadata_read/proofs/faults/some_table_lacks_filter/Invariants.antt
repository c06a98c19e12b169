use Rattle.std.proofs.Common.{◌≡◌, drop}
use Rattle.std.specs.List.{list_any}
use Rattle.role_model.specs.MetadataFaults.{lacks_a_filter}
use Rattle.metadata_read.proofs.faults.some_table_lacks_filter.Given as goal

abbrev pub invariant-loop-table : goal.invariant-loop-table
invariant-loop-table l = list_any lacks_a_filter (drop l.table-index l.tables) ≡ list_any lacks_a_filter l.tables
