use Rattle.std.proofs.Common.{[], List}
use Rattle.data_model.specs.declared.transaction.TxChange.{TxChange}
use Rattle.machine.specs.State.{Commit, Committed, Declined}
use Rattle.script_text.specs.Told.{Tells}
use Rattle.subs_run.proofs.Events.{hub_written, when_ok, served}
use Rattle.subs_run.proofs.event.commit.Goals as goal

pub returns-in-Ok-Committed : goal.returns-in-Ok-Committed
returns-in-Ok-Committed g c h st =
    let tx = c.args.tx.now in
    let reply = Committed c.in-Ok-Committed.version in
    let answers = rw c.in-Ok-Committed.field-0-is at c.in-Ok-Committed.ensures.reply in
    hub_written c.went.result c.write_commit.result _ c.args.hub.now c.commit.new.self h c.args.out.now.items
    c.write_commit.new.out.items c.went.ensures
    (λ ok. served c.args.hub.now c.commit.new.self h
    (Commit tx) reply [] [] c.args.out.now.items c.write_commit.new.out.items answers st tt
    (when_ok c.write_commit.result
    ((t : List TxChange) → Tells (Commit t) reply [] [] c.args.out.now.items c.write_commit.new.out.items)
    c.write_commit.ensures ok tx))

pub returns-in-Ok-Refused : goal.returns-in-Ok-Refused
returns-in-Ok-Refused g c h st =
    let tx = c.args.tx.now in
    let reply = Declined c.in-Ok-Refused.fault in
    let answers = rw c.in-Ok-Refused.field-0-is at c.in-Ok-Refused.ensures.reply in
    hub_written c.went-in-Ok-Refused.result c.write_refused.result _ c.args.hub.now c.commit.new.self h
    c.args.out.now.items c.write_refused.new.out.items c.went-in-Ok-Refused.ensures
    (λ ok. served c.args.hub.now c.commit.new.self h
    (Commit tx) reply [] [] c.args.out.now.items c.write_refused.new.out.items answers st tt
    (when_ok c.write_refused.result
    ((t : List TxChange) → Tells (Commit t) reply [] [] c.args.out.now.items c.write_refused.new.out.items)
    c.write_refused.ensures ok tx))
