use Rattle.std.proofs.Common.{◌≡◌, false}
use Rattle.history_lock.proofs.tests.LongTurns.run.Given as goal

abbrev pub invariant-loop : goal.invariant-loop
invariant-loop g l = (l.pass.lock ≡ l.lock) × (l.pass.has_turn ≡ false)
