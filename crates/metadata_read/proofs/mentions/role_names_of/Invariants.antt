use Rattle.std.proofs.Common.{◌≡◌, drop, map}
use Rattle.std.specs.List.{fold, flat_map}
use Rattle.role_model.specs.JsonFilters.{with_text}
use Rattle.role_model.specs.MetadataMeaning.{role_names}
use Rattle.metadata_read.proofs.mentions.role_names_of.Given as goal

abbrev pub invariant-loop-table : goal.invariant-loop-table
invariant-loop-table l = fold with_text l.names (flat_map (λ t. map (λ p. p.role) t.select) (drop l.table-index l.tables)) ≡ role_names l.tables
