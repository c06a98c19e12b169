use Rattle.std.proofs.Common.{◌≡◌, drop, is_none}
use Rattle.std.specs.List.{list_any}
use Rattle.role_model.specs.MetadataNames.{table_number, links_of}
use Rattle.metadata_read.proofs.faults.has_no_table.Given as goal

abbrev pub invariant-loop-table : goal.invariant-loop-table
invariant-loop-table l = list_any (λ t. list_any (λ k. is_none (table_number l.document.tables k.table)) (links_of t)) (drop l.table-index l.table-items) ≡ list_any (λ t. list_any (λ k. is_none (table_number l.document.tables k.table)) (links_of t)) l.document.tables
