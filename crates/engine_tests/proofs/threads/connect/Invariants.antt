use Rattle.std.proofs.Common.{◌≡◌, false}
use Rattle.engine_tests.proofs.threads.connect.Given as goal

abbrev pub invariant-loop-number : goal.invariant-loop-number
invariant-loop-number g l = (l.pass.lock ≡ l.engine) × (l.pass.has_turn ≡ false)
