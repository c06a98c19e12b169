use Rattle.std.proofs.Common.{◌≡◌, drop}
use Rattle.role_model.specs.MetadataNames.{kind_in}
use Rattle.metadata_read.proofs.faults.kind_by.Given as goal

abbrev pub invariant-loop-column : goal.invariant-loop-column
invariant-loop-column l = kind_in (drop l.column-index l.columns) l.name ≡ kind_in l.columns l.name
