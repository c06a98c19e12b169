use Rattle.std.proofs.Common.{◌≤◌, ◌+◌, ◌*◌, List}
use Rattle.machine.specs.State.{Event}
use Rattle.machine.specs.Run.{run}
use Rattle.machine.specs.Transcript as transcript
use Rattle.hub_model.specs.Stands.{StandsFor}
use Rattle.subs_run.specs.Events.{Reaches}
use Rattle.subs_run.proofs.Events.{hub_written, when_ok}
use Rattle.subs_run.proofs.Polls.{poll_ran}
use Rattle.subs_run.proofs.event.run_poll.Goals as goal

pub returns : goal.returns
returns g c h st =
    let k = c.args.hub.now in
    let k' = c.poll.new.hub in
    hub_written c.went.result c.poll.result _ k k' h c.args.out.now.items c.poll.new.out.items c.went.ensures
    (λ ok. poll_ran k k' h c.args.out.now.items c.poll.new.out.items
    (when_ok c.poll.result
    ((g : List Event) → StandsFor k g → Reaches k k' g
    (transcript.poll k.meta (run k.meta g)) c.args.out.now.items c.poll.new.out.items) c.poll.ensures.reaches ok h st)
    (when_ok c.poll.result (k'.events ≤ k.events + 1 + 2 * k.subscribed) c.poll.ensures.events ok))
