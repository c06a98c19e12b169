use Rattle.std.proofs.Common.{◌+◌, ◌-◌, subst, arith, Bool}
use Rattle.machine.specs.Run.{run}
use Rattle.machine.specs.Transcript as transcript
use Rattle.subs_run.specs.Events.{TookOne}
use Rattle.subs_run.proofs.Polls.{remains_less, nobody_remains}
use Rattle.subs_run.proofs.poll.publish_due.Goals as goal

pub take_and_publish-requires-clause-stands : goal.take_and_publish-requires-clause-stands
take_and_publish-requires-clause-stands g c =
    let r = c.loop-round.invariant.remains c.requires.stands.0 c.requires.stands.1 in (r.history, r.later.stands)

pub returns-then-not-branch-clause-reaches : goal.returns-then-not-branch-clause-reaches
returns-then-not-branch-clause-reaches g c h st =
    let k = c.args.hub.now in
    let r = c.loop-round.invariant.remains h st in
    nobody_remains k c.loop-round.hub c.take_and_publish.new.hub h
    (transcript.publish_due k.meta c.args.due (run k.meta h) (run k.meta h).due)
    (c.args.due - c.loop-round._round) c.args.out.now.items c.loop-round.out.items c.take_and_publish.new.out.items r
    (subst (λ (b : Bool). TookOne b c.loop-round.hub c.take_and_publish.new.hub r.history c.loop-round.out.items
    c.take_and_publish.new.out.items) c.if-not-branch.true
    (c.in_ok-take_and_publish.ensures.took r.history r.later.stands))

pub loop-round-preserved : goal.loop-round-preserved
loop-round-preserved g c = record {
  remains = λ h st.
      let k = c.args.hub.now in
      let r = c.loop-round.invariant.remains h st in
      remains_less k c.loop-round.hub c.take_and_publish.new.hub h
      (transcript.publish_due k.meta c.args.due (run k.meta h) (run k.meta h).due) (c.args.due - c.loop-round._round)
      (c.args.due - (c.loop-round._round + 1)) c.args.out.now.items c.loop-round.out.items
      c.take_and_publish.new.out.items (omega arith) r
      (subst (λ (b : Bool). TookOne b c.loop-round.hub c.take_and_publish.new.hub r.history c.loop-round.out.items
      c.take_and_publish.new.out.items) c.if-not-branch.false
      (c.in_ok-take_and_publish.ensures.took r.history r.later.stands));
  events = omega (arith, c.in_ok-take_and_publish.ensures.events);
}
