use Rattle.std.proofs.Common.{◌∙◌, [], List}
use Rattle.std.proofs.lemmas.Result.{IfOk-weaker}
use Rattle.subs_run.proofs.TakenJobs.{published, not_published}
use Rattle.subs_run.proofs.jobs.publish_job.Goals as goal

pub returns-in-Ok-Published-clause-closed : goal.returns-in-Ok-Published-clause-closed
returns-in-Ok-Published-clause-closed g c =
    let reply = rw c.in-Ok-Published.field-0-is at c.in-Ok-Published.ensures.reply in
    IfOk-weaker c.write_published.result _ _
    (λ x tells h st j. published c.args.hub.now c.publish.new.self h c.args.job.now c.of-answers.result
    c.in-Ok-Published.queued c.args.out.now.items c.write_published.new.out.items st j c.of-answers.ensures.number
    (c.of-answers.ensures.outcomes ∙ c.in_ok-outcomes.ensures.outcomes) reply tells) c.write_published.ensures

pub returns-in-Ok-NotOpen-clause-closed : goal.returns-in-Ok-NotOpen-clause-closed
returns-in-Ok-NotOpen-clause-closed g c =
    let reply = rw c.in-Ok-NotOpen.field-0-is at c.in-Ok-NotOpen.ensures.reply in
    IfOk-weaker c.write_not_open.result _ _
    (λ x tells h st j. not_published c.args.hub.now c.publish.new.self h c.args.job.now c.of-answers.result
    c.args.out.now.items c.write_not_open.new.out.items st c.of-answers.ensures.number reply tells)
    c.write_not_open.ensures.publish
