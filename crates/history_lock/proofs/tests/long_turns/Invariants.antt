use Rattle.std.proofs.Common.{◌≡◌, false}
use Rattle.history_lock.proofs.tests.long_turns.Given as goal

abbrev pub invariant-loop : goal.invariant-loop
invariant-loop l = (l.pass.lock ≡ l.lock) × (l.initial.pass.lock ≡ l.lock) × (l.pass.has_turn ≡ false)
