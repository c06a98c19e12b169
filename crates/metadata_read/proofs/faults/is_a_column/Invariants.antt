use Rattle.std.proofs.Common.{◌≡◌, drop}
use Rattle.role_model.specs.MetadataNames.{has_column}
use Rattle.metadata_read.proofs.faults.is_a_column.Given as goal

abbrev pub invariant-loop-column : goal.invariant-loop-column
invariant-loop-column l = has_column (drop l.column-index l.columns) l.name ≡ has_column l.columns l.name
