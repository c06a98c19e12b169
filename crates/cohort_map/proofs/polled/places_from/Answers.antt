use Rattle.std.proofs.Common.{◌∙◌, sym}
use Rattle.cohort_map.proofs.Polling.{has_rest}
use Rattle.cohort_map.proofs.polled.places_from.Goals as goal

pub returns-then-is_complete : goal.returns-then-is_complete
returns-then-is_complete c keys seats =
    has_rest keys seats c.args.pollers.now c.args.poller.now c.in-Some.list.now c.args.place c.since.result.now
    c.in-Some.ensures.value (sym c.is_complete.ensures ∙ c.if-is_complete.true) c.since.ensures.ascend c.since.ensures.keeps
