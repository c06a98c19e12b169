use Rattle.std.proofs.Common.{◌∙◌, sym, ap, refl, List, map}
use Rattle.std.proofs.lemmas.List.{length-map}
use Rattle.std.proofs.lemmas.Result.{IfOk-weaker}
use Rattle.machine.specs.Transcript.{cohorts}
use Rattle.cohort_map.specs.declared.member.Member.{Member}
use Rattle.hub_model.specs.Kept.{member_of}
use Rattle.hub_model.specs.Jobs.{job_of}
use Rattle.subs_run.proofs.poll.write_taken.Goals as goal

pub returns : goal.returns
returns c =
    IfOk-weaker c.write_job.result _ _
    (λ x tells. tells (job_of c.args.job.now) refl refl
    (sym (c.cohorts.ensures ∙ ap (λ (ms : List Member). cohorts (map member_of ms)) c.as_slice.ensures))
    (length-map c.args.job.now.members member_of ∙ sym c.len-members.ensures)) c.write_job.ensures
