use Rattle.std.proofs.Common.{◌≡◌, drop}
use Rattle.std.specs.List.{list_any}
use Rattle.role_model.specs.MetadataFaults.{has_a_bad_kind}
use Rattle.metadata_read.proofs.faults.has_bad_kind.Given as goal

abbrev pub invariant-loop-table : goal.invariant-loop-table
invariant-loop-table l = list_any (has_a_bad_kind l.document.tables) (drop l.table-index l.table-items) ≡ list_any (has_a_bad_kind l.document.tables) l.document.tables
