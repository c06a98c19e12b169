use Rattle.std.proofs.Common.{◌∙◌, sym}
use Rattle.std.specs.Int.{w64}
use Rattle.scalar_val.proofs.Spellings.{spelled_where_parsed}
use Rattle.selection_check.proofs.literals.read_big.Goals as goal

pub returns : goal.returns
returns c =
    c.ok.ensures.value
    ∙ spelled_where_parsed w64 c.args.digits.now _ c.parse.ensures.value.0 (rw c.as_bytes.ensures.value at (sym c.if-not-has_integer_shape.ensures))
