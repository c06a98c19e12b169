use Rattle.std.proofs.Common.{◌≡◌, map, take}
use Rattle.role_model.specs.MetadataMeaning.{table_def}
use Rattle.metadata_read.proofs.meaning.tables_of.Given as goal

abbrev pub invariant-loop-table : goal.invariant-loop-table
invariant-loop-table l = l.found ≡ map table_def (take l.table-index l.tables)
