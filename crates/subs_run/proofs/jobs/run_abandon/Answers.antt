use Rattle.std.proofs.Common.{[], arith}
use Rattle.machine.specs.State.{Abandon, Abandoned, NotOpen}
use Rattle.script_text.specs.Told.{Tells}
use Rattle.subs_run.proofs.Events.{line_written, when_ok}
use Rattle.subs_run.proofs.TakenJobs.{abandoned, closed_ran}
use Rattle.subs_run.proofs.jobs.run_abandon.Goals as goal

pub returns-then-abandon : goal.returns-then-abandon
returns-then-abandon c h r =
    let k = c.args.runner.now.hub in
    let k' = c.abandon.new.self in
    let jobs = c.args.runner.now.jobs.items in
    let others = c.remove_job-removed.new.jobs.items in
    let does = rw c.if-abandon.true at c.abandon.ensures in
    line_written c.went.result c.write_abandoned.result _ k k' others c.args.out.now.items
    c.write_abandoned.new.out.items c.went.ensures
    (λ ok. closed_ran k k' jobs others c.args.number c.remove_job-removed.result h
    (Abandon c.args.number) c.args.out.now.items c.write_abandoned.new.out.items r c.remove_job-removed.ensures
    (abandoned k k' h c.args.number Abandoned c.args.out.now.items c.write_abandoned.new.out.items r.stands does tt
    (when_ok c.write_abandoned.result
    (Tells (Abandon c.args.number) Abandoned [] [] c.args.out.now.items c.write_abandoned.new.out.items)
    c.write_abandoned.ensures ok))
    (omega (arith, does.events)))

pub returns-else-abandon : goal.returns-else-abandon
returns-else-abandon c h r =
    let k = c.args.runner.now.hub in
    let k' = c.abandon.new.self in
    let jobs = c.args.runner.now.jobs.items in
    let others = c.remove_job-removed.new.jobs.items in
    let does = rw c.if-abandon.false at c.abandon.ensures in
    line_written c.went-else-abandon.result c.write_not_open.result _ k k' others c.args.out.now.items
    c.write_not_open.new.out.items c.went-else-abandon.ensures
    (λ ok. closed_ran k k' jobs others c.args.number c.remove_job-removed.result h
    (Abandon c.args.number) c.args.out.now.items c.write_not_open.new.out.items r c.remove_job-removed.ensures
    (abandoned k k' h c.args.number NotOpen c.args.out.now.items c.write_not_open.new.out.items r.stands does tt
    (when_ok c.write_not_open.result
    (Tells (Abandon c.args.number) NotOpen [] [] c.args.out.now.items c.write_not_open.new.out.items)
    c.write_not_open.ensures.abandon ok))
    (omega (arith, does.events)))
