use Rattle.std.proofs.Common.{◌≡◌, drop}
use Rattle.std.specs.List.{fold, flat_map}
use Rattle.role_model.specs.JsonFilters.{with_text}
use Rattle.role_model.specs.MetadataMeaning.{mentions_by, permission_for, session_names}
use Rattle.metadata_read.proofs.plain.session_names_of.Given as goal

abbrev pub invariant-loop-table : goal.invariant-loop-table
invariant-loop-table l = fold with_text l.names (flat_map (λ t. mentions_by (permission_for l.role t)) (drop l.table-index l.tables)) ≡ session_names l.tables l.role
