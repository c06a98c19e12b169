use Rattle.hub.proofs.Readiness.{ready_is}
use Rattle.hub.proofs.conversation.made_ready.Goals as goal

pub returns-clause-ok : goal.returns-clause-ok
returns-clause-ok c =
    let made = c.in_ok-admitted.ensures.ok in
    ready_is c.canonical_texts.ensures.written c.args.meta.now c.args.session.now c.args.request.now made.0
    c.in_ok-admitted.admitted c.in_ok-ready_with.field-0 c.is_metadata.ensures made.1 made.2
    c.in_ok-ready_with.ensures.kind c.in_ok-ready_with.ensures.plan c.in_ok-ready_with.ensures.poller
    c.in_ok-ready_with.ensures.binding
