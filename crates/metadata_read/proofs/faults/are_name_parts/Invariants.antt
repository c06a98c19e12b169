use Rattle.std.proofs.Common.{◌≡◌, drop}
use Rattle.std.specs.List.{list_all}
use Rattle.role_model.specs.MetadataNames.{goes_on_name}
use Rattle.metadata_read.proofs.faults.are_name_parts.Given as goal

abbrev pub invariant-loop-byte : goal.invariant-loop-byte
invariant-loop-byte l = list_all goes_on_name (drop l.byte-index l.bytes) ≡ list_all goes_on_name l.bytes
