use Rattle.std.proofs.Common.{◌≡◌, ◌||◌, drop, not}
use Rattle.std.specs.List.{list_any}
use Rattle.role_model.specs.MetadataNames.{is_own_name, field_names}
use Rattle.metadata_read.proofs.faults.has_bad_name.Given as goal

abbrev pub invariant-loop-table : goal.invariant-loop-table
invariant-loop-table l = list_any (λ t. not (is_own_name t.name) || list_any (λ name. not (is_own_name name)) (field_names t)) (drop l.table-index l.table-items) ≡ list_any (λ t. not (is_own_name t.name) || list_any (λ name. not (is_own_name name)) (field_names t)) l.table-items
