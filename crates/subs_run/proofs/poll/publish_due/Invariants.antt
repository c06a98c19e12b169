use Rattle.std.proofs.Common.{◌≤◌, ◌+◌, ◌-◌, ◌*◌, List}
use Rattle.machine.specs.State.{Event}
use Rattle.machine.specs.Run.{run}
use Rattle.machine.specs.Transcript as transcript
use Rattle.hub_model.specs.Stands.{StandsFor}
use Rattle.subs_run.proofs.Polls.{Remains}
use Rattle.subs_run.proofs.poll.publish_due.Given as goal

abbrev pub invariant-loop-round : goal.invariant-loop-round
invariant-loop-round g l = record {
  remains : (h : List Event) → StandsFor l.fn.hub h → Remains l.fn.hub l.hub h
      (transcript.publish_due l.fn.hub.meta l.due (run l.fn.hub.meta h) (run l.fn.hub.meta h).due)
      (l.due - l._round) l.fn.out.items l.out.items;
  events : l.hub.events ≤ l.fn.hub.events + 2 * l._round;
}
