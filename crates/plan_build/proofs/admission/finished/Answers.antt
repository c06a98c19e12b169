use Rattle.serde_json.specs.View.{view}
use Rattle.request_model.specs.Selection.{given_values}
use Rattle.plan_build.proofs.MadeRules.{made_so}
use Rattle.plan_build.proofs.admission.finished.Goals as goal

pub returns : goal.returns
returns c =
    made_so c.args.asked.now.meta.now c.args.asked.now.session.now (given_values (view c.args.asked.now.values.now))
    c.args.asked.now.flat.now c.args.walked.now.field.now c.args.walked.now.vars c.args.given.now c.args.seen.now
    c.args.plan c.assembled.result c.requires.seen c.requires.admitted c.requires.plan
    c.assembled.ensures.kind c.assembled.ensures.plan c.assembled.ensures.canon c.assembled.ensures.binding
