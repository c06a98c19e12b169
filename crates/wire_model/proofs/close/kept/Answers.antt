use Rattle.std.proofs.Common.{take, sym, ap, ◌∙◌, arith}
use Rattle.wire_model.specs.CloseReasons as closes
use Rattle.wire_model.specs.CloseReasons.{exists_text}
use Rattle.wire_model.proofs.Cut.{exists_len, long_within, short_within}
use Rattle.wire_model.proofs.close.kept.Goals as goal

pub returns-then-whole-le-MOST_BYTES-clause-front : goal.returns-then-whole-le-MOST_BYTES-clause-front
returns-then-whole-le-MOST_BYTES-clause-front c =
    let text = exists_text c.args.id.now in
    let len = exists_len c.args.id.now in
    ap (λ n. take n text) (sym len) ∙ short_within closes.most_bytes text (omega arith)

pub returns-clause-front : goal.returns-clause-front
returns-clause-front c =
    let text = exists_text c.args.id.now in
    let len = exists_len c.args.id.now in
    ap (λ n. take n text) c.boundary.ensures.place ∙ long_within closes.most_bytes text (omega arith)
