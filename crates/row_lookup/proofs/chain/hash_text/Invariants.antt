use Rattle.std.proofs.Common.{◌≡◌, drop}
use Rattle.std.specs.List.{fold}
use Rattle.row_lookup.specs.Chaining.{mixed}
use Rattle.row_lookup.proofs.chain.hash_text.Given as goal

abbrev pub invariant-loop-byte : goal.invariant-loop-byte
invariant-loop-byte l = fold mixed l.hash (drop l.byte-index l.bytes) ≡ fold mixed 0 l.bytes
