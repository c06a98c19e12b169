use Rattle.std.proofs.Common.{◌≡◌, ◌++◌, drop}
use Rattle.std.specs.List.{flat_map}
use Rattle.role_model.specs.MetadataNames.{root_names}
use Rattle.metadata_read.proofs.faults.names_of_root_fields.Given as goal

abbrev pub invariant-loop-table : goal.invariant-loop-table
invariant-loop-table l = l.names ++ flat_map root_names (drop l.table-index l.tables) ≡ flat_map root_names l.tables
