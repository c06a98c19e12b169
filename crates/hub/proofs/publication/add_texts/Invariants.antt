use Rattle.std.proofs.Common.{◌≡◌, ◌++◌, List, ℕ, map, take}
use Rattle.machine.specs.declared.queued.Queued.{Queued}
use Rattle.hub.proofs.publication.add_texts.Given as goal

abbrev pub invariant-loop-text : goal.invariant-loop-text
invariant-loop-text l =
    let one : List ℕ → Queued = λ text. record { conn = l.telling.conn; text = text } in
    l.queued ≡ l.initial.queued ++ map one (take l.text-index l.text-items)
