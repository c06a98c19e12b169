use Rattle.machine.specs.State.{Connect, Did}
use Rattle.script_text.specs.Told.{closes_of, Tells}
use Rattle.subs_run.proofs.Events.{hub_written, when_ok, opened, open_known, open_never}
use Rattle.subs_run.proofs.event.run_open.Goals as goal

pub returns-in-Ok-Did : goal.returns-in-Ok-Did
returns-in-Ok-Did c h st =
    let answers = rw c.in-Ok-Did.field-0-is at c.in-Ok-Did.ensures.reply in
    let effect = c.in-Ok-Did.effect in
    hub_written c.went.result c.write_open.result _ c.args.hub.now c.connect.new.self h c.args.out.now.items
    c.write_open.new.out.items c.went.ensures
    (λ ok. opened c.args.hub.now c.connect.new.self h c.args.conn effect c.args.out.now.items
    c.write_open.new.out.items answers st
    (when_ok c.write_open.result
    (Tells (Connect c.args.conn) Did effect.queued
    (closes_of c.args.conn effect.closed) c.args.out.now.items c.write_open.new.out.items) c.write_open.ensures ok))

pub returns-in-Ok-ConnKnown : goal.returns-in-Ok-ConnKnown
returns-in-Ok-ConnKnown c h st =
    open_known c.args.hub.now c.connect.new.self h c.args.conn c.args.out.now.items c.args.out.now.items
    (rw c.in-Ok-ConnKnown.field-0-is at c.in-Ok-ConnKnown.ensures.reply) st

pub returns-in-Ok-ConnUnknown : goal.returns-in-Ok-ConnUnknown
returns-in-Ok-ConnUnknown c h st =
    absurd (open_never c.args.hub.now c.connect.new.self h c.args.conn
    (rw c.in-Ok-ConnUnknown.field-0-is at c.in-Ok-ConnUnknown.ensures.reply) st)
