use Rattle.std.proofs.Common.{◌≡◌, map, take}
use Rattle.role_model.specs.MetadataMeaning.{role_def}
use Rattle.metadata_read.proofs.meaning.roles_of.Given as goal

abbrev pub invariant-loop-name : goal.invariant-loop-name
invariant-loop-name l = l.roles ≡ map (role_def l.tables) (take l.name-index l.names)
