use Rattle.std.proofs.Common.{◌≡◌, ◌+◌, ◌-◌, ◌*◌, ◌<◌, drop}
use Rattle.std.specs.List.{fold}
use Rattle.machine.specs.Lines.{number_of}
use Rattle.script_text.proofs.number.small_number.Given as goal

abbrev pub invariant-loop-byte : goal.invariant-loop-byte
invariant-loop-byte l = record {
  so_far : fold (λ n b. n * 10 + (b - 48)) l.number (drop l.byte-index l.text) ≡ number_of l.text;
  small : l.number < l.limit;
}
