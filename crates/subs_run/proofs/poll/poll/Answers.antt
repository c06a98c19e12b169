use Rattle.std.proofs.Common.{◌∷◌, [], ◌++◌, arith}
use Rattle.std.proofs.lemmas.Result.{IfOk-weaker}
use Rattle.machine.specs.State.{Tick}
use Rattle.subs_run.proofs.Polls.{due_few, polled}
use Rattle.subs_run.proofs.poll.poll.Goals as goal

pub publish_due-requires-clause-stands : goal.publish_due-requires-clause-stands
publish_due-requires-clause-stands g c =
    let h = c.requires.stands.0 in
    (h ++ Tick ∷ [], (c.tick-due.ensures.does.happened h c.requires.stands.1).stands)

pub publish_due-requires-clause-few : goal.publish_due-requires-clause-few
publish_due-requires-clause-few g c =
    omega (
      arith,
      c.tick-due.ensures.does.events,
      due_few c.args.hub.now c.tick-due.new.self c.requires.stands.0
          c.tick-due.result c.tick-due.ensures.does c.requires.stands.1,
    )

pub returns-clause-reaches : goal.returns-clause-reaches
returns-clause-reaches g c =
    IfOk-weaker c.publish_due.result _ _
    (λ x reaches h st. polled c.args.hub.now c.tick-due.new.self c.publish_due.new.hub h c.tick-due.result
    c.args.out.now.items c.write_tick.new.out.items c.publish_due.new.out.items c.tick-due.ensures.does st
    c.in_ok-write_tick.ensures reaches) c.publish_due.ensures.reaches

pub returns-clause-events : goal.returns-clause-events
returns-clause-events g c =
    IfOk-weaker c.publish_due.result _ _
    (λ x events. omega (
      arith,
      events,
      c.tick-due.ensures.does.events,
      due_few c.args.hub.now c.tick-due.new.self c.requires.stands.0
          c.tick-due.result c.tick-due.ensures.does c.requires.stands.1,
    )) c.publish_due.ensures.events
