use Rattle.std.proofs.Common.{◌≡◌, ◌++◌, take, drop, length}
use Rattle.json.specs.Print.{escape}
use Rattle.scalar_val.proofs.json_text.put_escaped.Given as goal

abbrev pub invariant-loop-byte : goal.invariant-loop-byte
invariant-loop-byte l = record {
  written : l.out.items ++ escape (drop l.byte-index l.bytes) ≡ l.fn.out.items ++ escape l.bytes;
  front : take (length l.fn.out.items) l.out.items ≡ l.fn.out.items;
}
