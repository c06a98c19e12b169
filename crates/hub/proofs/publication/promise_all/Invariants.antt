use Rattle.std.proofs.Common.{◌≡◌, ◌++◌, take}
use Rattle.std.specs.List.{flat_map}
use Rattle.hub.specs.Telling.{promised_by}
use Rattle.hub.proofs.publication.promise_all.Given as goal

abbrev pub invariant-loop-telling : goal.invariant-loop-telling
invariant-loop-telling l =
    (l.connections.connections ≡ l.initial.connections.connections)
    × (l.connections.promised
    ≡ l.initial.connections.promised ++ flat_map promised_by (take l.telling-index l.tellings))
