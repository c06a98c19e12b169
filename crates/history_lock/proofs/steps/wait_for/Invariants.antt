use Rattle.history_lock.specs.Seats.{Sees}
use Rattle.history_lock.proofs.steps.wait_for.Given as goal

abbrev pub invariant-loop : goal.invariant-loop
invariant-loop g l = Sees l.initial.seat l.seat
