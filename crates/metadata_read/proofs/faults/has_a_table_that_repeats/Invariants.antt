use Rattle.std.proofs.Common.{◌≡◌, drop}
use Rattle.std.specs.List.{list_any}
use Rattle.role_model.specs.MetadataFaults.{repeats_a_name}
use Rattle.metadata_read.proofs.faults.has_a_table_that_repeats.Given as goal

abbrev pub invariant-loop-table : goal.invariant-loop-table
invariant-loop-table l = list_any repeats_a_name (drop l.table-index l.tables) ≡ list_any repeats_a_name l.tables
