use Rattle.polling_worker.specs.Parts.{Rounds}
use Rattle.polling_worker.proofs.worker.poll_worker.Given as goal

abbrev pub invariant-loop : goal.invariant-loop
invariant-loop g l =
    Rounds l.ticks l.refetch_ms l.initial.pass l.pass (g.C.Clock.tells l.initial.clock) (g.C.Clock.tells l.clock) l.last
    l.initial.steps l.steps
