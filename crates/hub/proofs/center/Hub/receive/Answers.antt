use Rattle.std.proofs.Common.{◌∙◌, sym, ap, refl, Some, List, ℕ}
use Rattle.wire_model.specs.declared.close.CloseReason.{CloseReason}
use Rattle.wire_model.specs.declared.close.CloseReason.TheVariants as close
use Rattle.wire_model.specs.declared.step.Action.TheVariants as act
use Rattle.wire_model.specs.CloseReasons.{close_exists}
use Rattle.wire_model.specs.ServerMessages.{pong_text}
use Rattle.ws_message.specs.Meant.{meant}
use Rattle.machine.specs.State.{Receive}
use Rattle.hub_model.specs.Steps.{counted, ended}
use Rattle.hub.specs.Parts.{ClosesBy}
use Rattle.hub.specs.Messages.{SaysBy, EndsBy, live_as}
use Rattle.hub.proofs.Receives.{some_event, received, each_received, did_so, pongs, ignores, closes, ends}
use Rattle.hub.proofs.center.Hub.receive.Goals as goal

pub end-requires-clause-event : goal.end-requires-clause-event
end-requires-clause-event c =
    some_event c.args.conn (meant c.args.parts.now.msg) (EndsBy c.args.self.now c.args.conn c.in-Some.number)
    (ends c.args.conn c.args.self.now (meant c.args.parts.now.msg) c.in-Some.number c.in-End.ensures
    (ap (λ (id : List ℕ). live_as c.args.conn id c.args.self.now) (sym c.id_of.ensures) ∙ sym c.in-Some.ensures))

pub say-requires-clause-event : goal.say-requires-clause-event
say-requires-clause-event c =
    some_event c.args.conn (meant c.args.parts.now.msg) (SaysBy c.args.self.now c.args.conn pong_text)
    (pongs c.args.conn c.args.self.now (meant c.args.parts.now.msg) c.in-Pong.ensures)

pub returns-in-Some-clause-reply : goal.returns-in-Some-clause-reply
returns-in-Some-clause-reply c =
    received c.args.self.now c.end.new.self c.args.conn (meant c.args.parts.now.msg) c.end.result (λ m l.
    did_so c.args.self.now (counted (ended c.args.conn c.in-Some.number c.args.self.now)) c.end.new.self c.args.conn
    (Receive c.args.conn m) c.end.result c.end.ensures.new c.end.ensures.reply
    (ends c.args.conn c.args.self.now (meant c.args.parts.now.msg) c.in-Some.number c.in-End.ensures
    (ap (λ (id : List ℕ). live_as c.args.conn id c.args.self.now) (sym c.id_of.ensures) ∙ sym c.in-Some.ensures) m l))

pub returns-in-Pong-clause-reply : goal.returns-in-Pong-clause-reply
returns-in-Pong-clause-reply c =
    each_received c.args.self.now c.say.new.self c.args.conn (meant c.args.parts.now.msg)
    (SaysBy c.args.self.now c.args.conn pong_text) c.say.result c.say.ensures.reply
    (pongs c.args.conn c.args.self.now (meant c.args.parts.now.msg) c.in-Pong.ensures)

pub returns-in-Ignore-clause-reply : goal.returns-in-Ignore-clause-reply
returns-in-Ignore-clause-reply c =
    received c.args.self.now c.ignore.new.self c.args.conn (meant c.args.parts.now.msg) c.ignore.result (λ m l.
    did_so c.args.self.now (counted c.args.self.now) c.ignore.new.self c.args.conn (Receive c.args.conn m)
    c.ignore.result c.ignore.ensures.new c.ignore.ensures.reply
    (ignores c.args.conn c.args.self.now (meant c.args.parts.now.msg) c.in-Ignore.ensures m l))

pub close-requires-clause-event : goal.close-requires-clause-event
close-requires-clause-event c =
    some_event c.args.conn (meant c.args.parts.now.msg) (ClosesBy c.args.self.now c.args.conn close.Invalid)
    (closes c.args.conn c.args.self.now (meant c.args.parts.now.msg) act.Invalid close.Invalid
    c.in-Invalid.ensures refl)

pub returns-in-Invalid-clause-reply : goal.returns-in-Invalid-clause-reply
returns-in-Invalid-clause-reply c =
    received c.args.self.now c.close.new.self c.args.conn (meant c.args.parts.now.msg) c.close.result
    (λ m l. c.close.ensures.reply (Receive c.args.conn m)
    (closes c.args.conn c.args.self.now (meant c.args.parts.now.msg) act.Invalid close.Invalid
    c.in-Invalid.ensures refl m l))

pub close-requires-in-Unauthorized-clause-event : goal.close-requires-in-Unauthorized-clause-event
close-requires-in-Unauthorized-clause-event c =
    some_event c.args.conn (meant c.args.parts.now.msg) (ClosesBy c.args.self.now c.args.conn close.Unauthorized)
    (closes c.args.conn c.args.self.now (meant c.args.parts.now.msg) act.Unauthorized close.Unauthorized
    c.in-Unauthorized.ensures refl)

pub returns-in-Unauthorized-clause-reply : goal.returns-in-Unauthorized-clause-reply
returns-in-Unauthorized-clause-reply c =
    received c.args.self.now c.close-in-Unauthorized.new.self c.args.conn (meant c.args.parts.now.msg)
    c.close-in-Unauthorized.result
    (λ m l. c.close-in-Unauthorized.ensures.reply (Receive c.args.conn m)
    (closes c.args.conn c.args.self.now (meant c.args.parts.now.msg) act.Unauthorized close.Unauthorized
    c.in-Unauthorized.ensures refl m l))

pub close-requires-in-Exists-clause-event : goal.close-requires-in-Exists-clause-event
close-requires-in-Exists-clause-event c =
    some_event c.args.conn (meant c.args.parts.now.msg) (ClosesBy c.args.self.now c.args.conn c.close_exists.result)
    (closes c.args.conn c.args.self.now (meant c.args.parts.now.msg) act.Exists c.close_exists.result
    c.in-Exists.ensures
    (ap (λ (id : List ℕ). Some (close_exists id)) (sym c.id_of-in-Exists.ensures)
    ∙ ap (λ (r : CloseReason). Some r) (sym c.close_exists.ensures)))

pub returns-in-Exists-clause-reply : goal.returns-in-Exists-clause-reply
returns-in-Exists-clause-reply c =
    received c.args.self.now c.close-in-Exists.new.self c.args.conn (meant c.args.parts.now.msg)
    c.close-in-Exists.result
    (λ m l. c.close-in-Exists.ensures.reply (Receive c.args.conn m)
    (closes c.args.conn c.args.self.now (meant c.args.parts.now.msg) act.Exists c.close_exists.result
    c.in-Exists.ensures
    (ap (λ (id : List ℕ). Some (close_exists id)) (sym c.id_of-in-Exists.ensures)
    ∙ ap (λ (r : CloseReason). Some r) (sym c.close_exists.ensures)) m l))

pub close-requires-in-TooManyInits-clause-event : goal.close-requires-in-TooManyInits-clause-event
close-requires-in-TooManyInits-clause-event c =
    some_event c.args.conn (meant c.args.parts.now.msg) (ClosesBy c.args.self.now c.args.conn close.TooManyInits)
    (closes c.args.conn c.args.self.now (meant c.args.parts.now.msg) act.TooManyInits close.TooManyInits
    c.in-TooManyInits.ensures refl)

pub returns-in-TooManyInits-clause-reply : goal.returns-in-TooManyInits-clause-reply
returns-in-TooManyInits-clause-reply c =
    received c.args.self.now c.close-in-TooManyInits.new.self c.args.conn (meant c.args.parts.now.msg)
    c.close-in-TooManyInits.result
    (λ m l. c.close-in-TooManyInits.ensures.reply (Receive c.args.conn m)
    (closes c.args.conn c.args.self.now (meant c.args.parts.now.msg) act.TooManyInits close.TooManyInits
    c.in-TooManyInits.ensures refl m l))
