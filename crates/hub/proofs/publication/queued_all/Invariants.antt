use Rattle.std.proofs.Common.{◌≡◌, take}
use Rattle.std.specs.List.{flat_map}
use Rattle.hub_model.specs.Tellings.{queued_by}
use Rattle.hub.proofs.publication.queued_all.Given as goal

abbrev pub invariant-loop-telling : goal.invariant-loop-telling
invariant-loop-telling l = l.queued ≡ flat_map queued_by (take l.telling-index l.tellings)
