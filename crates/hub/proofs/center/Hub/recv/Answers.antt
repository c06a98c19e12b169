use Rattle.ws_message.specs.Meant.{meant}
use Rattle.hub.specs.Readings.{said_of}
use Rattle.hub.proofs.Receives.{each_said, some_said}
use Rattle.hub.proofs.Readings.{means_said}
use Rattle.hub.proofs.center.Hub.recv.Goals as goal

pub returns-clause-reply : goal.returns-clause-reply
returns-clause-reply c =
    λ message says.
    each_said c.args.self.now c.hear_parts.new.self c.args.conn c.args.text.now (meant c.in_ok-parts.parts.msg)
    c.hear_parts.result c.in_ok-parts.ensures.meant c.hear_parts.ensures.reply message says

pub returns-clause-some : goal.returns-clause-some
returns-clause-some c =
    let msg = c.in_ok-parts.parts.msg in
    let selection = c.in_ok-parts.parts.selection in
    some_said c.args.self.now c.hear_parts.new.self c.args.conn (meant msg) c.hear_parts.result (said_of msg selection)
    (means_said msg selection c.in_ok-parts.ensures.read) c.hear_parts.ensures.reply
