use Rattle.std.proofs.Common.{◌≡◌, ◌++◌, drop}
use Rattle.std.specs.List.{filter_map, enumerate_from}
use Rattle.role_model.specs.MetadataMeaning.{grant_for}
use Rattle.metadata_read.proofs.plain.grants_of.Given as goal

abbrev pub invariant-loop-at : goal.invariant-loop-at
invariant-loop-at l = l.grants ++ filter_map (grant_for l.role l.names) (enumerate_from l.at (drop l.at l.tables)) ≡ filter_map (grant_for l.role l.names) (enumerate_from 0 l.tables)
