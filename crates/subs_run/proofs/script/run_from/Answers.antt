use Rattle.std.proofs.Common.{arith}
use Rattle.subs_run.proofs.script.run_from.Goals as goal

pub overflow_add-count : goal.overflow_add-count
overflow_add-count g c =
    let took = c.in-Read.ensures.leads _ c.loop-count.invariant.at in
    record { fits = omega (arith, took.0.within) }

pub loop-count-smaller : goal.loop-count-smaller
loop-count-smaller g c =
    let took = c.in-Read.ensures.leads _ c.loop-count.invariant.at in
    omega (arith, took.0.within, took.1)
