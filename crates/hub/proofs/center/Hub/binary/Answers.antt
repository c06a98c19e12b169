use Rattle.std.proofs.Common.{◌∙◌, sym, ap, Some}
use Rattle.wire_model.specs.declared.step.Phase as wire
use Rattle.machine.specs.State.{Binary}
use Rattle.hub.proofs.Receives.{binaries_unknown, binaries_ignored, binaries_closing}
use Rattle.hub.proofs.center.Hub.binary.Goals as goal

pub close-requires : goal.close-requires
close-requires c = record {
  room = c.requires;
  event = (
    Binary c.args.conn,
    binaries_closing c.args.conn c.args.self.now c.in-Some.stage
        (sym c.stage.ensures ∙ c.in-Some.is) c.in_default-stage.not-Closed,
  );
}

pub returns-in_default : goal.returns-in_default
returns-in_default c =
    binaries_unknown c.args.conn c.args.self.now c.count.new.self (sym c.stage.ensures ∙ c.in_default.is)
    c.count.ensures

pub returns-in-Closed : goal.returns-in-Closed
returns-in-Closed c =
    binaries_ignored c.args.conn c.args.self.now c.ignore.new.self c.ignore.result
    (sym c.stage.ensures ∙ c.in-Some.is ∙ ap (λ (s : wire.Phase). Some s) c.in-Closed.is) c.ignore.ensures.new
    c.ignore.ensures.reply

pub returns-in_default-stage : goal.returns-in_default-stage
returns-in_default-stage c =
    c.close.ensures.reply (Binary c.args.conn)
    (binaries_closing c.args.conn c.args.self.now c.in-Some.stage (sym c.stage.ensures ∙ c.in-Some.is)
    c.in_default-stage.not-Closed)
