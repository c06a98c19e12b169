use Rattle.std.proofs.Common.{◌≡◌, ◌++◌, List, ℕ, map}
use Rattle.std.specs.Vec.Iter.{into_iter_items}
use Rattle.hub_model.specs.Kept.{Kept}
use Rattle.hub_model.specs.Tellings.{queues_all}
use Rattle.hub.specs.Telling.{with_connected}
use Rattle.hub.proofs.publication.queue_all.Given as goal

abbrev pub invariant-loop-text : goal.invariant-loop-text
invariant-loop-text l =
    let one : List ℕ → ℕ = λ text. l.conn in
    ((k : Kept) → queues_all l.conn (into_iter_items l.text-iterator) (with_connected l.connections.connections k)
    ≡ queues_all l.conn l.fn.texts (with_connected l.initial.connections.connections k))
    × ((rest : List ℕ) → l.initial.connections.promised ≡ map one l.fn.texts ++ rest →
    l.connections.promised ≡ map one (into_iter_items l.text-iterator) ++ rest)
