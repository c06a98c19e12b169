use Rattle.std.proofs.Common.{List}
use Rattle.machine.specs.Messages.{Message}
use Rattle.machine.specs.State.{Event, Receive, Did}
use Rattle.machine.specs.Run.{run}
use Rattle.script_text.specs.Told.{closes_of, Tells}
use Rattle.subs_run.proofs.Known.{receive_on}
use Rattle.subs_run.proofs.Events.{hub_written, hub_kept, when_ok, Answered, received, received_on, not_received, recv_never}
use Rattle.subs_run.proofs.event.run_recv.Goals as goal

pub returns-in-Ok-Did-clause-ran : goal.returns-in-Ok-Did-clause-ran
returns-in-Ok-Did-clause-ran c meant h st says =
    let some = rw c.in-Ok-Did.field-0-is at c.in-Ok-Did.ensures.some in
    let effect = c.in-Ok-Did.effect in
    let text = c.args.text.now in
    let answered : Answered c.args.hub.now c.recv.new.self c.args.conn text effect = record {
      each = λ m said. rw c.in-Ok-Did.field-0-is at (c.in-Ok-Did.ensures.reply m said);
      message = some.0;
      some = some.1;
    } in
    hub_written c.went.result c.write_recv.result _ c.args.hub.now c.recv.new.self h c.args.out.now.items
    c.write_recv.new.out.items c.went.ensures
    (λ ok. received meant c.args.hub.now c.recv.new.self h c.args.conn text effect c.args.out.now.items
    c.write_recv.new.out.items answered st says
    (when_ok c.write_recv.result
    ((m : Message) → Tells (Receive c.args.conn m) Did effect.queued
    (closes_of c.args.conn effect.closed) c.args.out.now.items c.write_recv.new.out.items) c.write_recv.ensures ok))

pub returns-in-Ok-Did-clause-goes_on : goal.returns-in-Ok-Did-clause-goes_on
returns-in-Ok-Did-clause-goes_on c h st =
    let some = rw c.in-Ok-Did.field-0-is at c.in-Ok-Did.ensures.some in
    let effect = c.in-Ok-Did.effect in
    let text = c.args.text.now in
    let answered : Answered c.args.hub.now c.recv.new.self c.args.conn text effect = record {
      each = λ m said. rw c.in-Ok-Did.field-0-is at (c.in-Ok-Did.ensures.reply m said);
      message = some.0;
      some = some.1;
    } in
    hub_kept c.went.result c.write_recv.result c.args.hub.now c.recv.new.self h c.went.ensures
    (λ ok. received_on c.args.hub.now c.recv.new.self h c.args.conn text effect answered st)

pub returns-in-Ok-ConnKnown-clause-ran : goal.returns-in-Ok-ConnKnown-clause-ran
returns-in-Ok-ConnKnown-clause-ran c meant h st says =
    let some = rw c.in-Ok-ConnKnown.field-0-is at c.in-Ok-ConnKnown.ensures.some in
    absurd (recv_never c.args.hub.now c.recv.new.self h c.args.conn some.0 some.1 st)

pub returns-in-Ok-ConnUnknown-clause-ran : goal.returns-in-Ok-ConnUnknown-clause-ran
returns-in-Ok-ConnUnknown-clause-ran c meant h st says =
    let some = rw c.in-Ok-ConnUnknown.field-0-is at c.in-Ok-ConnUnknown.ensures.some in
    not_received c.args.hub.now c.recv.new.self h c.args.conn some.0
    (meant c.args.text.now) c.args.out.now.items c.args.out.now.items some.1 st
