use Rattle.std.proofs.Common.{◌≡◌, drop}
use Rattle.role_model.specs.MetadataFaults.{lacks_a_column}
use Rattle.metadata_read.proofs.faults.names_no_column.Given as goal

abbrev pub invariant-loop-name : goal.invariant-loop-name
invariant-loop-name l = lacks_a_column l.columns (drop l.name-index l.names) ≡ lacks_a_column l.columns l.names
