use Rattle.std.proofs.Common.{◌∙◌}
use Rattle.hub.proofs.Receives.{refusal_as, refusal_replied}
use Rattle.hub.proofs.center.Hub.refuse.Goals as goal

pub say-requires-clause-event : goal.say-requires-clause-event
say-requires-clause-event c = (
  c.requires.event.0,
  refusal_as c.args.self.now c.args.conn c.args.id.now c.args.fault.now c.as_str.result.now c.fault_code.result.now
      (c.as_str.ensures ∙ c.in_ok-message.ensures) c.fault_code.ensures c.requires.event.0 c.requires.event.1,
)

pub returns-clause-reply : goal.returns-clause-reply
returns-clause-reply c =
    refusal_replied c.args.self.now c.say.new.self c.args.conn c.args.id.now c.args.fault.now c.as_str.result.now
    c.fault_code.result.now (c.as_str.ensures ∙ c.in_ok-message.ensures) c.fault_code.ensures c.say.result
    c.say.ensures.reply
