use Rattle.std.proofs.Common.{◌≡◌, map, take}
use Rattle.std.specs.List.{filter_map}
use Rattle.hub.specs.Telling.{AreKept, told, text_of}
use Rattle.hub.proofs.publication.tellings.Given as goal

abbrev pub invariant-loop-member : goal.invariant-loop-member
invariant-loop-member l =
    AreKept (map text_of l.outcomes) l.kept.items
    × (l.tellings ≡ filter_map (told l.cohorts.entries l.held l.outcomes) (take l.member-index l.members))
