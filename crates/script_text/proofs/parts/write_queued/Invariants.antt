use Rattle.std.proofs.Common.{◌≡◌, ◌++◌, ◌∷◌, drop}
use Rattle.std.specs.List.{flat_map}
use Rattle.machine.specs.Transcript.{queued_line}
use Rattle.script_text.proofs.parts.write_queued.Given as goal

-- what is written so far, and then the lines of what is left
abbrev pub invariant-loop-one : goal.invariant-loop-one
invariant-loop-one l = l.out.items ++ flat_map queued_line (drop l.one-index l.queued) ≡ l.fn.out.items ++ 10 ∷ flat_map queued_line l.queued
