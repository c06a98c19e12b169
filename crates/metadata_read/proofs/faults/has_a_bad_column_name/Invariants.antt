use Rattle.std.proofs.Common.{◌≡◌, map, drop, not}
use Rattle.std.specs.List.{list_any}
use Rattle.role_model.specs.MetadataNames.{is_own_name}
use Rattle.metadata_read.proofs.faults.has_a_bad_column_name.Given as goal

abbrev pub invariant-loop-column : goal.invariant-loop-column
invariant-loop-column l = list_any (λ name. not (is_own_name name)) (map (λ c. c.name) (drop l.column-index l.columns)) ≡ list_any (λ name. not (is_own_name name)) (map (λ c. c.name) l.columns)
