use Rattle.std.proofs.Common.{◌∙◌, sym}
use Rattle.hub.proofs.Receives.{receives_unknown}
use Rattle.hub.proofs.center.Hub.hear_parts.Goals as goal

pub returns-in_default-clause-reply : goal.returns-in_default-clause-reply
returns-in_default-clause-reply c =
    λ message means.
    receives_unknown c.args.conn c.args.self.now c.count.new.self (sym c.stage.ensures ∙ c.in_default.is)
    c.count.ensures message
