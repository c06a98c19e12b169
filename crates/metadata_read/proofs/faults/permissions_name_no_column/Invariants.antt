use Rattle.std.proofs.Common.{◌≡◌, drop}
use Rattle.std.specs.List.{list_any}
use Rattle.role_model.specs.MetadataFaults.{lacks_a_column}
use Rattle.metadata_read.proofs.faults.permissions_name_no_column.Given as goal

abbrev pub invariant-loop-permission : goal.invariant-loop-permission
invariant-loop-permission l = list_any (λ p. lacks_a_column l.columns p.columns) (drop l.permission-index l.select) ≡ list_any (λ p. lacks_a_column l.columns p.columns) l.select
