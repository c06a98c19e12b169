use Rattle.std.proofs.Common.{ap, option_map}
use Rattle.serde_json.specs.View.{view}
use Rattle.ws_message.specs.Meant.{meant}
use Rattle.machine.specs.Messages.{Init}
use Rattle.machine.specs.State.{Receive}
use Rattle.hub_model.specs.Kept.{Kept}
use Rattle.hub.specs.Messages.{AcknowledgesBy}
use Rattle.hub.proofs.Receives.{identifies_so, acknowledges, turns_away, whom_received, away_received}
use Rattle.hub.proofs.center.Hub.identify.Goals as goal

pub acknowledge-requires-clause-event : goal.acknowledge-requires-clause-event
acknowledge-requires-clause-event c =
    let msg = meant c.args.msg.now in
    let w = identifies_so c.args.conn c.args.self.now msg c.requires.asks c.self.inside.meta
    (option_map (λ v. view v.now) c.payload_of.result) c.in_ok-session.field-0
    (ap (λ (k : Kept). k.meta) c.self.view_is) c.payload_of.ensures c.in_ok-session.ensures in (
      Receive c.args.conn (Init w.payload),
      acknowledges c.args.conn c.args.self.now msg c.requires.asks c.in_ok-session.field-0 w c.in-Allowed.session
          c.in-Allowed.is,
    )

pub close-requires-clause-event : goal.close-requires-clause-event
close-requires-clause-event c =
    let msg = meant c.args.msg.now in
    let w = identifies_so c.args.conn c.args.self.now msg c.requires.asks c.self.inside.meta
    (option_map (λ v. view v.now) c.payload_of.result) c.in_ok-session.field-0
    (ap (λ (k : Kept). k.meta) c.self.view_is) c.payload_of.ensures c.in_ok-session.ensures in (
      Receive c.args.conn (Init w.payload),
      turns_away c.args.conn c.args.self.now msg c.requires.asks c.in_ok-session.field-0 w c.in-Forbidden.is,
    )

pub returns-in-Allowed-clause-reply : goal.returns-in-Allowed-clause-reply
returns-in-Allowed-clause-reply c =
    let msg = meant c.args.msg.now in
    let w = identifies_so c.args.conn c.args.self.now msg c.requires.asks c.self.inside.meta
    (option_map (λ v. view v.now) c.payload_of.result) c.in_ok-session.field-0
    (ap (λ (k : Kept). k.meta) c.self.view_is) c.payload_of.ensures c.in_ok-session.ensures in
    whom_received c.args.self.now c.acknowledge.new.self c.args.conn msg c.in_ok-session.field-0 w
    (AcknowledgesBy c.args.self.now c.args.conn c.in-Allowed.session) c.acknowledge.result c.acknowledge.ensures.reply
    (acknowledges c.args.conn c.args.self.now msg c.requires.asks c.in_ok-session.field-0 w c.in-Allowed.session
    c.in-Allowed.is)

pub returns-in-Forbidden-clause-reply : goal.returns-in-Forbidden-clause-reply
returns-in-Forbidden-clause-reply c =
    let msg = meant c.args.msg.now in
    let w = identifies_so c.args.conn c.args.self.now msg c.requires.asks c.self.inside.meta
    (option_map (λ v. view v.now) c.payload_of.result) c.in_ok-session.field-0
    (ap (λ (k : Kept). k.meta) c.self.view_is) c.payload_of.ensures c.in_ok-session.ensures in
    away_received c.args.self.now c.close.new.self c.args.conn msg c.in_ok-session.field-0 w c.close.result
    (c.close.ensures.reply (Receive c.args.conn (Init w.payload))
    (turns_away c.args.conn c.args.self.now msg c.requires.asks c.in_ok-session.field-0 w c.in-Forbidden.is))
