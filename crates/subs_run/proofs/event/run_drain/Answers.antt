use Rattle.std.proofs.Common.{[]}
use Rattle.machine.specs.State.{Drain, Sent, Empty, Done}
use Rattle.machine.specs.Run.{run}
use Rattle.script_text.specs.Told.{Tells}
use Rattle.subs_run.proofs.Known.{drain_on}
use Rattle.subs_run.proofs.Events.{hub_written, when_ok, served_known, not_known}
use Rattle.subs_run.proofs.event.run_drain.Goals as goal

pub returns-in-Sent : goal.returns-in-Sent
returns-in-Sent c h st =
    let e = Drain c.args.conn in
    let reply = Sent c.in-Sent.text in
    hub_written c.went.result c.write_sent.result _ c.args.hub.now c.drain_one.new.self h c.args.out.now.items
    c.write_sent.new.out.items c.went.ensures
    (λ ok. served_known c.args.hub.now c.drain_one.new.self h c.args.conn e reply [] [] c.args.out.now.items
    c.write_sent.new.out.items (drain_on c.args.hub.now.meta (run c.args.hub.now.meta h) c.args.conn)
    (λ u. cc) tt c.in-Sent.ensures st
    (when_ok c.write_sent.result (Tells e reply [] [] c.args.out.now.items c.write_sent.new.out.items)
    (rw c.as_bytes.ensures at c.write_sent.ensures) ok))

pub returns-in-Empty : goal.returns-in-Empty
returns-in-Empty c h st =
    let e = Drain c.args.conn in
    hub_written c.went-in-Empty.result c.write_empty.result _ c.args.hub.now c.drain_one.new.self h
    c.args.out.now.items c.write_empty.new.out.items c.went-in-Empty.ensures
    (λ ok. served_known c.args.hub.now c.drain_one.new.self h c.args.conn e Empty [] [] c.args.out.now.items
    c.write_empty.new.out.items (drain_on c.args.hub.now.meta (run c.args.hub.now.meta h) c.args.conn)
    (λ u. cc) tt c.in-Empty.ensures st
    (when_ok c.write_empty.result
    (Tells e Empty [] [] c.args.out.now.items c.write_empty.new.out.items) c.write_empty.ensures ok))

pub returns-in-Done : goal.returns-in-Done
returns-in-Done c h st =
    let e = Drain c.args.conn in
    let reply = Done c.in-Done.reason in
    hub_written c.went-in-Done.result c.write_done.result _ c.args.hub.now c.drain_one.new.self h c.args.out.now.items
    c.write_done.new.out.items c.went-in-Done.ensures
    (λ ok. served_known c.args.hub.now c.drain_one.new.self h c.args.conn e reply [] [] c.args.out.now.items
    c.write_done.new.out.items (drain_on c.args.hub.now.meta (run c.args.hub.now.meta h) c.args.conn)
    (λ u. cc) tt c.in-Done.ensures st
    (when_ok c.write_done.result
    (Tells e reply [] [] c.args.out.now.items c.write_done.new.out.items) c.write_done.ensures ok))

pub returns-in-ConnUnknown : goal.returns-in-ConnUnknown
returns-in-ConnUnknown c h st =
    not_known c.args.hub.now c.drain_one.new.self h c.args.conn
    (Drain c.args.conn) c.args.out.now.items c.args.out.now.items
    (drain_on c.args.hub.now.meta (run c.args.hub.now.meta h) c.args.conn) c.in-ConnUnknown.ensures st
