use Rattle.std.proofs.Common.{◌≡◌, false}
use Rattle.json.specs.Written.{PlainBetween}
use Rattle.scalar_val.proofs.json_text.is_plain.Given as goal

abbrev pub invariant-loop-byte : goal.invariant-loop-byte
invariant-loop-byte l = l.stops ≡ false → PlainBetween l.bytes 0 l.byte-index
