use Rattle.std.proofs.Common.{◌∙◌, sym}
use Rattle.cohort_map.proofs.Polling.{made_new}
use Rattle.cohort_map.proofs.polled.make_list.Goals as goal

pub returns-in-Ok-clause-made : goal.returns-in-Ok-clause-made
returns-in-Ok-clause-made c =
    made_new c.args.pollers.now c.insert.new.self c.args.poller.now c.in_ok-copy.copy c.new.result c.in_ok-copy.ensures
    (sym c.contains_key.ensures ∙ c.if-contains_key.false) c.new.ensures.places c.new.ensures.complete
    c.in-Ok.ensures.updates
