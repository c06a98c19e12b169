use Rattle.std.proofs.Common.{◌≡◌, take}
use Rattle.std.specs.List.{filter_map}
use Rattle.hub_model.specs.Tellings.{move_of}
use Rattle.hub.proofs.publication.moves_of.Given as goal

abbrev pub invariant-loop-telling : goal.invariant-loop-telling
invariant-loop-telling l = l.moves ≡ filter_map move_of (take l.telling-index l.tellings)
