use Rattle.std.proofs.Common.{◌≡◌, ◌++◌, List, ℕ, map, take}
use Rattle.hub.proofs.publication.promise_texts.Given as goal

abbrev pub invariant-loop-text : goal.invariant-loop-text
invariant-loop-text l =
    let one : List ℕ → ℕ = λ text. l.telling.conn in
    (l.connections.connections ≡ l.initial.connections.connections)
    × (l.connections.promised ≡ l.initial.connections.promised ++ map one (take l._text-index l._text-items))
