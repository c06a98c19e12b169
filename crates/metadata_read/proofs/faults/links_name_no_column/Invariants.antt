use Rattle.std.proofs.Common.{◌≡◌, drop}
use Rattle.std.specs.List.{list_any}
use Rattle.role_model.specs.MetadataFaults.{link_lacks_a_column}
use Rattle.metadata_read.proofs.faults.links_name_no_column.Given as goal

abbrev pub invariant-loop-link : goal.invariant-loop-link
invariant-loop-link l = list_any (link_lacks_a_column l.tables l.table) (drop l.link-index l.links) ≡ list_any (link_lacks_a_column l.tables l.table) l.links
