use Rattle.std.proofs.Common.{◌∙◌, sym, ap, refl, List}
use Rattle.std.specs.Option.{is_some}
use Rattle.hub_model.specs.declared.job.OpenJob.{OpenJob}
use Rattle.hub.specs.Parts.{job_in}
use Rattle.hub.specs.Seen.{seen}
use Rattle.hub.proofs.Calls.{abandons, abandons_not}
use Rattle.hub.proofs.Sound.{sound_next}
use Rattle.hub.proofs.center.Hub.abandon.Goals as goal

pub invariant_of-self : goal.invariant_of-self
invariant_of-self c =
    sound_next c.self.inside _ _ _ _ _ c.self.invariant (refl, refl, refl, refl, refl, refl) c.self.invariant.promised
    c.self.invariant.ready
    (abandons_not (seen c.self.inside) c.args.number
    (ap (λ (js : List OpenJob). is_some (job_in c.args.number js)) (sym c.deref.ensures.value)
    ∙ sym c.is_open.ensures ∙ c.if-not-is_open.true))

pub returns-then-not-is_open : goal.returns-then-not-is_open
returns-then-not-is_open c =
    rw (← c.self.view_is)
    (abandons_not (seen c.self.inside) c.args.number
    (ap (λ (js : List OpenJob). is_some (job_in c.args.number js)) (sym c.deref.ensures.value)
    ∙ sym c.is_open.ensures ∙ c.if-not-is_open.true))

pub invariant_of-self-2 : goal.invariant_of-self-2
invariant_of-self-2 c =
    sound_next c.self.inside _ _ _ _ _ c.self.invariant (refl, refl, refl, refl, refl, refl) c.self.invariant.promised
    (c.close_job.ensures.ready ∙ c.self.invariant.ready)
    (abandons (seen c.self.inside) c.args.number c.close_job.new.cohorts.entries c.close_job.new.held
    c.close_job.new.jobs.items
    (ap (λ (js : List OpenJob). is_some (job_in c.args.number js)) (sym c.deref.ensures.value)
    ∙ sym c.is_open.ensures ∙ c.if-not-is_open.false)
    c.close_job.ensures.closes)

pub returns : goal.returns
returns c =
    rw (← c.self.view_is)
    (abandons (seen c.self.inside) c.args.number c.close_job.new.cohorts.entries c.close_job.new.held
    c.close_job.new.jobs.items
    (ap (λ (js : List OpenJob). is_some (job_in c.args.number js)) (sym c.deref.ensures.value)
    ∙ sym c.is_open.ensures ∙ c.if-not-is_open.false)
    c.close_job.ensures.closes)
