use Rattle.subs_engine.proofs.Polling.{polls_job}
use Rattle.subs_engine.proofs.engine.Engine.poll_once.Goals as goal

pub returns-in-Some : goal.returns-in-Some
returns-in-Some g c =
    polls_job c.args.pass.now c.take.new.pass c.evaluate.new.pass c.in_ok-job.field-0 c.in-Some.job c.evaluate.result
    c.args.steps.now c.evaluate.new.steps c.in-Some.is c.in_ok-job.ensures.ok c.in_ok-job.ensures.job
    c.evaluate.ensures.did c.evaluate.ensures.steps
