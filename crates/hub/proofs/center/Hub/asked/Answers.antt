use Rattle.ws_message.specs.Meant.{meant}
use Rattle.hub.proofs.Receives.{step_asks}
use Rattle.hub.proofs.center.Hub.asked.Goals as goal

pub returns : goal.returns
returns c =
    step_asks c.args.conn c.args.self.now (meant c.args.msg.now) c.args.stage c.id_of.result.now
    c.live_number-live.result c.is_some.result c.step.result c.requires c.id_of.ensures c.live_number-live.ensures
    c.is_some.ensures c.step.ensures
