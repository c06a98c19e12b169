use Rattle.polling_worker.proofs.Working.{works_begin_fault, works_poll_fault, works_stop}
use Rattle.polling_worker.proofs.worker.poll_worker.Goals as goal

pub returns-in-Err : goal.returns-in-Err
returns-in-Err g c =
    works_begin_fault c.args.ticks c.args.refetch_ms c.args.pass.now c.loop.pass c.begin.new.pass
    (g.C.Clock.tells c.args.clock.now) (g.C.Clock.tells c.loop.clock) (g.C.Clock.tells c.begin.new.clock) c.loop.last
    c.args.steps.now c.loop.steps c.in-Err.fault c.loop.invariant c.in-Err.ensures

pub returns-in-Err-poll_all : goal.returns-in-Err-poll_all
returns-in-Err-poll_all g c =
    works_poll_fault c.args.ticks c.args.refetch_ms c.args.pass.now c.loop.pass c.begin.new.pass c.poll_all.new.pass
    (g.C.Clock.tells c.args.clock.now) (g.C.Clock.tells c.loop.clock) (g.C.Clock.tells c.begin.new.clock) c.loop.last
    c.begin.new.last c.args.steps.now c.loop.steps c.poll_all.new.steps c.in-Err-poll_all.fault c.loop.invariant
    c.in-Ok.ensures c.in-Err-poll_all.ensures

pub returns-in-Some-stop : goal.returns-in-Some-stop
returns-in-Some-stop g c =
    works_stop c.args.ticks c.args.refetch_ms c.args.pass.now c.loop.pass c.begin.new.pass c.poll_all.new.pass
    (g.C.Clock.tells c.args.clock.now) (g.C.Clock.tells c.loop.clock) (g.C.Clock.tells c.begin.new.clock) c.loop.last
    c.begin.new.last c.args.steps.now c.loop.steps c.poll_all.new.steps c.in-Some-stop.stop c.loop.invariant
    c.in-Ok.ensures c.in-Ok-poll_all.ensures
