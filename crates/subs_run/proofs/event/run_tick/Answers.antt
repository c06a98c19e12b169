use Rattle.std.proofs.Common.{[]}
use Rattle.machine.specs.State.{Tick, Ticked}
use Rattle.script_text.specs.Told.{Tells}
use Rattle.subs_run.proofs.Events.{hub_written, when_ok, served}
use Rattle.subs_run.proofs.event.run_tick.Goals as goal

pub returns : goal.returns
returns c h st =
    let reply = Ticked c.tick-due.result in
    hub_written c.went.result c.write_tick.result _ c.args.hub.now c.tick-due.new.self h c.args.out.now.items
    c.write_tick.new.out.items c.went.ensures
    (λ ok. served c.args.hub.now c.tick-due.new.self h Tick reply [] [] c.args.out.now.items
    c.write_tick.new.out.items c.tick-due.ensures.does st tt
    (when_ok c.write_tick.result
    (Tells Tick reply [] [] c.args.out.now.items c.write_tick.new.out.items) c.write_tick.ensures ok))
