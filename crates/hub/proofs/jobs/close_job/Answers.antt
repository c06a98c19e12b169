use Rattle.std.proofs.Common.{◌∙◌, ap}
use Rattle.hub.specs.Parts.{members_in}
use Rattle.hub.proofs.Closings.{job_closed}
use Rattle.hub.proofs.jobs.close_job.Goals as goal

pub returns-clause-closes : goal.returns-clause-closes
returns-clause-closes c =
    job_closed c.args.number c.args.due c.args.cohorts.now.entries c.close_job.new.self.entries c.args.held.now
    c.clear_all.new.held c.args.jobs.now.items c.remove_job.new.jobs.items c.members_of.result.now
    c.close_job.ensures.entries
    (c.members_of.ensures ∙ ap (members_in c.args.number) c.deref.ensures.value)
    c.clear_all.ensures c.remove_job.ensures
