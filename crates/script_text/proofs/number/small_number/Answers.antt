use Rattle.std.proofs.Common.{arith}
use Rattle.script_text.proofs.Numbers.{too_large}
use Rattle.script_text.proofs.number.small_number.Goals as goal

pub returns-then-number-limit : goal.returns-then-number-limit
returns-then-number-limit c = too_large c.args.limit c.args.text.now c.loop-byte.number c.loop-byte.byte-index c.loop-byte-test.true c.loop-byte.invariant.so_far (omega arith)
