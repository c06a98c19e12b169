use Rattle.std.proofs.Common.{◌≡◌, false}
use Rattle.history_lock.proofs.tests.take_turns.Given as goal

abbrev pub invariant-loop : goal.invariant-loop
invariant-loop g l = (l.pass.lock ≡ l.initial.pass.lock) × (l.pass.has_turn ≡ false)
