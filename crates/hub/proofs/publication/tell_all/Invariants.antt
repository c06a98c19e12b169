use Rattle.std.proofs.Common.{◌≡◌}
use Rattle.std.specs.Vec.Iter.{into_iter_items}
use Rattle.hub_model.specs.Kept.{Kept}
use Rattle.hub_model.specs.Tellings.{tells}
use Rattle.hub.specs.Telling.{promised_for, with_tables}
use Rattle.hub.proofs.publication.tell_all.Given as goal

abbrev pub invariant-loop-telling : goal.invariant-loop-telling
invariant-loop-telling l =
    ((k : Kept) →
    tells (into_iter_items l.telling-iterator) (with_tables l.connections.connections l.held l.cohorts.entries k)
    ≡ tells l.fn.tellings (with_tables l.initial.connections.connections l.initial.held l.initial.cohorts.entries k))
    × (l.connections.promised ≡ promised_for (into_iter_items l.telling-iterator))
    × (l.cohorts.ready ≡ l.initial.cohorts.ready)
