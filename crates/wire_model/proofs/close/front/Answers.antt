use Rattle.std.proofs.Common.{◌∙◌, arith, length-set}
use Rattle.wire_model.specs.CloseReasons.{exists_text}
use Rattle.wire_model.proofs.Cut.{copies_one}
use Rattle.wire_model.proofs.close.front.Goals as goal

pub loop-at-preserved : goal.loop-at-preserved
loop-at-preserved c =
    let in_bytes = c.loop-at.invariant.0 in
    (length-set c.loop-at.bytes c.loop-at.at c.byte_at.result ∙ in_bytes, copies_one c.loop-at.bytes (exists_text c.args.id.now) c.loop-at.at c.byte_at.result (omega arith) (omega arith) c.loop-at.invariant.1 c.byte_at.ensures)
