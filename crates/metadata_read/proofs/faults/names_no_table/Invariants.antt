use Rattle.std.proofs.Common.{◌≡◌, drop, is_none}
use Rattle.std.specs.List.{list_any}
use Rattle.role_model.specs.MetadataNames.{table_number}
use Rattle.metadata_read.proofs.faults.names_no_table.Given as goal

abbrev pub invariant-loop-link : goal.invariant-loop-link
invariant-loop-link l = list_any (λ k. is_none (table_number l.tables k.table)) (drop l.link-index l.links) ≡ list_any (λ k. is_none (table_number l.tables k.table)) l.links
