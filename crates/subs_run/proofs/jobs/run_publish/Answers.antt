use Rattle.std.proofs.Common.{◌≤◌, ◌+◌, ℕ, Some, None, List, [], subst}
use Rattle.machine.specs.State.{Event, Publish, NotOpen}
use Rattle.machine.specs.Run.{run}
use Rattle.hub_model.specs.declared.job.Job.{Job}
use Rattle.hub_model.specs.Jobs.{JobOf}
use Rattle.hub_model.specs.Stands.{StandsFor}
use Rattle.script_text.specs.Told.{Tells}
use Rattle.subs_run.specs.Events.{IsTaken, HasClosed}
use Rattle.subs_run.proofs.Events.{line_written, when_ok}
use Rattle.subs_run.proofs.TakenJobs.{removed_one, closed_ran, none_published}
use Rattle.subs_run.proofs.jobs.run_publish.Goals as goal

pub publish_job-requires-clause-job : goal.publish_job-requires-clause-job
publish_job-requires-clause-job g c =
    let k = c.args.runner.now.hub in
    let h : List Event = c.requires.stands.0 in
    let taken = removed_one (IsTaken k.meta h) c.args.runner.now.jobs.items c.remove_job.new.jobs.items c.in-Some.job
    c.in-Some.ensures.0 c.requires.stands.1.taken in
    (h, c.requires.stands.1.stands, taken.is_job)

pub publish_job-requires-clause-fits : goal.publish_job-requires-clause-fits
publish_job-requires-clause-fits g c =
    let k = c.args.runner.now.hub in
    let h : List Event = c.requires.stands.0 in
    (removed_one (IsTaken k.meta h) c.args.runner.now.jobs.items c.remove_job.new.jobs.items c.in-Some.job
    c.in-Some.ensures.0 c.requires.stands.1.taken).fits

pub returns-in-Some : goal.returns-in-Some
returns-in-Some g c h r =
    let k = c.args.runner.now.hub in
    let k' = c.publish_job.new.hub in
    let job : Job = c.in-Some.job in
    let before : List ℕ = c.args.out.now.items in
    let after : List ℕ = c.publish_job.new.out.items in
    let number : ℕ = c.args.number in
    let taken = removed_one (IsTaken k.meta h) c.args.runner.now.jobs.items c.remove_job.new.jobs.items job
    c.in-Some.ensures.0 r.taken in
    line_written c.went.result c.publish_job.result _ k k' c.remove_job.new.jobs.items before after c.went.ensures
    (λ ok. closed_ran k k' c.args.runner.now.jobs.items c.remove_job.new.jobs.items number (Some job) h
    (Publish number) before after r c.in-Some.ensures
    (subst (λ (n : ℕ). HasClosed k k' h (Publish n) n before after) c.in-Some.ensures.1
    (when_ok c.publish_job.result ((g : List Event) → StandsFor k g → JobOf k.meta job g → HasClosed k k' g
    (Publish job.number) job.number before after) c.publish_job.ensures.closed ok h r.stands taken.is_job))
    (when_ok c.publish_job.result (k'.events ≤ k.events + 1) c.publish_job.ensures.events ok))

pub returns-in-None : goal.returns-in-None
returns-in-None g c h r =
    let k = c.args.runner.now.hub in
    let before : List ℕ = c.args.out.now.items in
    let after : List ℕ = c.write_not_open.new.out.items in
    line_written c.went-in-None.result c.write_not_open.result _ k k c.remove_job.new.jobs.items before after
    c.went-in-None.ensures
    (λ ok. none_published k c.args.runner.now.jobs.items c.remove_job.new.jobs.items c.args.number h before after r
    c.in-None.ensures
    (when_ok c.write_not_open.result
    (Tells (Publish c.args.number) NotOpen [] [] before after) c.write_not_open.ensures.publish ok))
