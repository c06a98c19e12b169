use Rattle.std.proofs.Common.{◌∙◌, sym}
use Rattle.plan_build.proofs.RunRules.{plan_there}
use Rattle.plan_build.proofs.admission.plan_in.Goals as goal

pub unreachable-requires : goal.unreachable-requires
unreachable-requires c =
    plan_there _ c.args.asked.now.session.now _ _ c.canonical_texts.ensures.written c.plans.ensures.there c.is_metadata.ensures c.requires.selected
    _ _ _ c.requires.root c.requires.vars c.requires.walk c.requires.given (sym c.requires.plan ∙ c.in-None.is)
