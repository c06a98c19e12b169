use Rattle.std.proofs.Common.{◌≡◌, drop}
use Rattle.std.specs.List.{list_any}
use Rattle.role_model.specs.MetadataFaults.{links_other_kinds}
use Rattle.metadata_read.proofs.faults.links_differ_in_kind.Given as goal

abbrev pub invariant-loop-link : goal.invariant-loop-link
invariant-loop-link l = list_any (links_other_kinds l.tables l.table) (drop l.link-index l.links) ≡ list_any (links_other_kinds l.tables l.table) l.links
