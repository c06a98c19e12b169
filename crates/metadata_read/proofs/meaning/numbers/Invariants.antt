use Rattle.std.proofs.Common.{◌≡◌, take}
use Rattle.role_model.specs.MetadataMeaning.{numbers_of}
use Rattle.metadata_read.proofs.meaning.numbers.Given as goal

abbrev pub invariant-loop-name : goal.invariant-loop-name
invariant-loop-name l = l.found ≡ numbers_of l.columns (take l.name-index l.names)
