use Rattle.std.proofs.Common.{sym, subst, arith, ◌++◌, ◌∷◌, [], List}
use Rattle.role_model.specs.declared.metadata.Metadata.{Metadata}
use Rattle.machine.specs.State.{Event, Take}
use Rattle.hub_model.specs.Jobs.{JobOf}
use Rattle.subs_run.proofs.Polls.{took_some, took_none}
use Rattle.subs_run.proofs.poll.take_and_publish.Goals as goal

pub publish_job-requires-clause-job : goal.publish_job-requires-clause-job
publish_job-requires-clause-job g c =
    let taking = rw c.in-Some.is at c.in_ok-job.ensures.reply in
    let h : List Event = c.requires.stands.0 in
    let h1 : List Event = h ++ Take ∷ [] in (
      h1,
      (taking.does.happened h c.requires.stands.1).stands,
      subst (λ (m : Metadata). JobOf m c.in-Some.job h1)
          (sym taking.does.meta) (taking.is_job h c.requires.stands.1),
    )

pub publish_job-requires-clause-fits : goal.publish_job-requires-clause-fits
publish_job-requires-clause-fits g c = let taking = rw c.in-Some.is at c.in_ok-job.ensures.reply in taking.fits

pub publish_job-requires-clause-few : goal.publish_job-requires-clause-few
publish_job-requires-clause-few g c =
    let taking = rw c.in-Some.is at c.in_ok-job.ensures.reply in omega (arith, taking.does.events)

pub returns : goal.returns
returns g c =
    let taking = rw c.in-Some.is at c.in_ok-job.ensures.reply in
    record {
      took = λ h st.
          let h1 : List Event = h ++ Take ∷ [] in
          took_some c.args.hub.now c.take.new.self c.publish_job.new.hub h c.in-Some.job c.args.out.now.items
          c.write_taken.new.out.items c.publish_job.new.out.items taking st c.in_ok-write_taken.ensures
          (c.in_ok-publish_job.ensures.closed h1 (taking.does.happened h st).stands
          (subst (λ (m : Metadata). JobOf m c.in-Some.job h1) (sym taking.does.meta) (taking.is_job h st)));
      events = omega (arith, taking.does.events, c.in_ok-publish_job.ensures.events);
    }

pub returns-in_default-clause-took : goal.returns-in_default-clause-took
returns-in_default-clause-took g c h st =
    took_none c.args.hub.now c.take.new.self h c.args.out.now.items (rw c.in_default.is at c.in_ok-job.ensures.reply) st
