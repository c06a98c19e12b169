use Rattle.std.proofs.Common.{[]}
use Rattle.std.proofs.lemmas.Result.{IfOk-weaker}
use Rattle.machine.specs.State.{Take, Nobody}
use Rattle.machine.specs.Run.{run}
use Rattle.machine.specs.Script.{serves}
use Rattle.subs_run.specs.declared.line_result.LineResult.TheVariants as line_result
use Rattle.subs_run.proofs.Events.{line_ran, served}
use Rattle.subs_run.proofs.TakenJobs.{took}
use Rattle.subs_run.proofs.jobs.take.Goals as goal

pub returns-in_default : goal.returns-in_default
returns-in_default c =
    let k = c.args.runner.now.hub in
    let does = rw c.in_default.is at c.in_ok-job.ensures.reply in
    IfOk-weaker c.write_none.result _ _
    (λ x tells h r. line_ran line_result.Went
    (serves k.meta (run k.meta h) Take) k c.take.new.self c.args.runner.now.jobs.items h c.args.out.now.items
    c.write_none.new.out.items r
    (served k c.take.new.self h Take Nobody [] [] c.args.out.now.items c.write_none.new.out.items does r.stands tt
    tells)) c.write_none.ensures

pub returns : goal.returns
returns c h r =
    let k = c.args.runner.now.hub in
    let taking = rw c.in-Some.is at c.in_ok-job.ensures.reply in
    took k c.take.new.self c.args.runner.now.jobs.items c.push.new.self.items c.in-Some.job h c.args.out.now.items
    c.write_taken.new.out.items r taking c.in_ok-push.ensures.items c.in_ok-write_taken.ensures
