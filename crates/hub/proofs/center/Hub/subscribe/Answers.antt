use Rattle.hub.proofs.Receives.{its_session, session_there, join_event, join_received, refuse_event, refuse_received}
use Rattle.hub.proofs.Receives.{refused_with}
use Rattle.hub.proofs.center.Hub.subscribe.Goals as goal

pub admitted-requires-clause-session : goal.admitted-requires-clause-session
admitted-requires-clause-session c =
    session_there c.args.conn c.args.self.now c.args.parts.now.msg c.requires.asks c.in-Subscribe.id
    c.in-Subscribe.request c.in-Subscribe.is

pub join-requires-clause-event : goal.join-requires-clause-event
join-requires-clause-event c =
    let s = its_session c.args.conn c.args.self.now c.args.parts.now.msg c.requires.asks c.in-Subscribe.id
    c.in-Subscribe.request c.in-Subscribe.is in
    join_event c.args.conn c.args.self.now c.args.parts.now.msg c.requires.asks c.in-Subscribe.id c.in-Subscribe.request
    c.in-Subscribe.is c.requests.ensures.once c.requests.ensures.by_selection c.in-Ok.ready
    (c.in-Ok.ensures.ok s.session s.at) c.as_str.result.now c.as_str.ensures

pub refuse-requires-clause-event : goal.refuse-requires-clause-event
refuse-requires-clause-event c =
    let s = its_session c.args.conn c.args.self.now c.args.parts.now.msg c.requires.asks c.in-Subscribe.id
    c.in-Subscribe.request c.in-Subscribe.is in
    refuse_event c.args.conn c.args.self.now c.args.parts.now.msg c.requires.asks c.in-Subscribe.id
    c.in-Subscribe.request c.in-Subscribe.is c.requests.ensures.once c.requests.ensures.by_selection
    c.in-Err-Refused.fault
    (c.admitted.ensures.refused s.session s.at c.in-Err-Refused.fault
    (refused_with c.admitted.result c.in-Err-Refused.field-0 c.in-Err-Refused.fault c.in-Err-Refused.is
    c.in-Err-Refused.field-0-is))
    c.as_str-in-Err-Refused.result.now c.as_str-in-Err-Refused.ensures

pub returns-in-Ok-clause-reply : goal.returns-in-Ok-clause-reply
returns-in-Ok-clause-reply c =
    let s = its_session c.args.conn c.args.self.now c.args.parts.now.msg c.requires.asks c.in-Subscribe.id
    c.in-Subscribe.request c.in-Subscribe.is in
    join_received c.args.conn c.args.self.now c.args.parts.now.msg c.requires.asks c.in-Subscribe.id
    c.in-Subscribe.request c.in-Subscribe.is c.requests.ensures.once c.requests.ensures.by_selection c.in-Ok.ready
    (c.in-Ok.ensures.ok s.session s.at) c.as_str.result.now c.as_str.ensures c.join.new.self c.join.result
    c.join.ensures.reply

pub returns-in-Err-Refused-clause-reply : goal.returns-in-Err-Refused-clause-reply
returns-in-Err-Refused-clause-reply c =
    let s = its_session c.args.conn c.args.self.now c.args.parts.now.msg c.requires.asks c.in-Subscribe.id
    c.in-Subscribe.request c.in-Subscribe.is in
    refuse_received c.args.conn c.args.self.now c.args.parts.now.msg c.requires.asks c.in-Subscribe.id
    c.in-Subscribe.request c.in-Subscribe.is c.requests.ensures.once c.requests.ensures.by_selection
    c.in-Err-Refused.fault
    (c.admitted.ensures.refused s.session s.at c.in-Err-Refused.fault
    (refused_with c.admitted.result c.in-Err-Refused.field-0 c.in-Err-Refused.fault c.in-Err-Refused.is
    c.in-Err-Refused.field-0-is))
    c.as_str-in-Err-Refused.result.now c.as_str-in-Err-Refused.ensures c.refuse.new.self c.refuse.result
    c.refuse.ensures.reply
