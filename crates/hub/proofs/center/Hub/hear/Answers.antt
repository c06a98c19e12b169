use Rattle.std.proofs.Common.{subst, IfOk}
use Rattle.machine.specs.Messages.{Message}
use Rattle.machine.specs.State.{Receive}
use Rattle.ws_message.specs.Meant.{meant}
use Rattle.hub_model.specs.Replies.{ConnAnswers}
use Rattle.hub.specs.Readings.{said_of}
use Rattle.hub.proofs.Receives.{is_heard}
use Rattle.hub.proofs.Readings.{means_said}
use Rattle.hub.proofs.center.Hub.hear.Goals as goal

pub returns-clause-reply : goal.returns-clause-reply
returns-clause-reply c =
    let parts = c.said.inside.parts in
    subst (λ (m : Message). IfOk c.hear_parts.result
    (λ reply. ConnAnswers c.args.self.now c.hear_parts.new.self c.args.conn (Receive c.args.conn m) reply))
    c.said.view_is
    (is_heard c.args.self.now c.hear_parts.new.self c.args.conn (meant parts.msg) (said_of parts.msg parts.selection)
    c.hear_parts.result (means_said parts.msg parts.selection c.said.invariant) c.hear_parts.ensures.reply)
