use Rattle.polling_worker.specs.Parts.{Polls}
use Rattle.polling_worker.proofs.poll.poll_all.Given as goal

abbrev pub invariant-loop : goal.invariant-loop
invariant-loop g l = Polls l.initial.pass l.pass l.initial.steps l.steps 0
