use Rattle.std.proofs.Common.{ap, ◌∙◌}
use Rattle.wire_model.specs.declared.close.CloseReason.TheVariants as closes
use Rattle.wire_model.proofs.close.close_exists.Goals as goal

pub returns : goal.returns
returns c = ap closes.Exists (c.front-bytes.ensures ∙ c.kept-len.ensures.front)
