use Rattle.std.proofs.Common.{◌≡◌, drop, find}
use Rattle.hub.specs.Messages.{has_id}
use Rattle.hub.proofs.conversation.find_id.Given as goal

abbrev pub invariant-loop-number : goal.invariant-loop-number
invariant-loop-number l =
    find (has_id l.held l.id) (drop l.number-index l.numbers) ≡ find (has_id l.held l.id) l.numbers
