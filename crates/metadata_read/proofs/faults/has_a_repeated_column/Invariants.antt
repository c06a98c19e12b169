use Rattle.std.proofs.Common.{◌≡◌, drop}
use Rattle.std.specs.List.{list_any}
use Rattle.role_model.specs.MetadataNames.{has_twice}
use Rattle.metadata_read.proofs.faults.has_a_repeated_column.Given as goal

abbrev pub invariant-loop-permission : goal.invariant-loop-permission
invariant-loop-permission l = list_any (λ p. has_twice p.columns) (drop l.permission-index l.select) ≡ list_any (λ p. has_twice p.columns) l.select
