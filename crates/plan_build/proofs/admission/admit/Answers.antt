use Rattle.plan_build.proofs.RunRules.{runs, fits}
use Rattle.plan_build.proofs.admission.admit.Goals as goal

pub returns-clause-run : goal.returns-clause-run
returns-clause-run c =
    runs _ c.args.session.now _ _ _ c.requests.ensures.once c.requests.ensures.by_selection c.canonical_texts.ensures.written
    c.plans.ensures.fit c.results.ensures.planned c.is_metadata.ensures c.in_ok-flat.flat c.in_ok-flat.ensures.ok
    c.admit_selected.result c.admit_selected.ensures.ok

pub returns-clause-fits : goal.returns-clause-fits
returns-clause-fits c =
    fits _ c.args.session.now _ _ _ c.canonical_texts.ensures.written c.plans.ensures.fit c.results.ensures.planned
    c.is_metadata.ensures c.in_ok-flat.flat c.in_ok-flat.ensures.ok c.admit_selected.result c.admit_selected.ensures.ok
