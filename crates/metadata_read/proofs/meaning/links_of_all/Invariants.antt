use Rattle.std.proofs.Common.{◌≡◌, map, take}
use Rattle.role_model.specs.MetadataMeaning.{link_defs}
use Rattle.metadata_read.proofs.meaning.links_of_all.Given as goal

abbrev pub invariant-loop-table : goal.invariant-loop-table
invariant-loop-table l = l.found ≡ map (link_defs l.tables) (take l.table-index l.tables)
