use Rattle.machine.specs.State.{Timeout, Did}
use Rattle.machine.specs.Run.{run}
use Rattle.script_text.specs.Told.{closes_of, Tells}
use Rattle.subs_run.proofs.Known.{timeout_on}
use Rattle.subs_run.proofs.Events.{hub_written, when_ok, conn_did, conn_never, not_known}
use Rattle.subs_run.proofs.event.run_timeout.Goals as goal

pub returns-in-Did : goal.returns-in-Did
returns-in-Did c h st =
    let effect = c.in-Did.effect in
    hub_written c.went.result c.write_timeout.result _ c.args.hub.now c.timeout.new.self h c.args.out.now.items
    c.write_timeout.new.out.items c.went.ensures
    (λ ok. conn_did c.args.hub.now c.timeout.new.self h c.args.conn
    (Timeout c.args.conn) effect c.args.out.now.items c.write_timeout.new.out.items
    (timeout_on c.args.hub.now.meta (run c.args.hub.now.meta h) c.args.conn) c.in-Did.ensures st
    (when_ok c.write_timeout.result
    (Tells (Timeout c.args.conn) Did effect.queued
    (closes_of c.args.conn effect.closed) c.args.out.now.items c.write_timeout.new.out.items) c.write_timeout.ensures
    ok))

pub returns-in-ConnKnown : goal.returns-in-ConnKnown
returns-in-ConnKnown c h st =
    absurd (conn_never c.args.hub.now c.timeout.new.self h c.args.conn (Timeout c.args.conn)
    (timeout_on c.args.hub.now.meta (run c.args.hub.now.meta h) c.args.conn) c.in-ConnKnown.ensures st)

pub returns-in-ConnUnknown : goal.returns-in-ConnUnknown
returns-in-ConnUnknown c h st =
    not_known c.args.hub.now c.timeout.new.self h c.args.conn
    (Timeout c.args.conn) c.args.out.now.items c.args.out.now.items
    (timeout_on c.args.hub.now.meta (run c.args.hub.now.meta h) c.args.conn) c.in-ConnUnknown.ensures st
