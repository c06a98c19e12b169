use Rattle.std.proofs.Common.{◌≡◌, length, take}
use Rattle.wire_model.specs.CloseReasons.{exists_text}
use Rattle.wire_model.proofs.close.front.Given as goal

abbrev pub invariant-loop-at : goal.invariant-loop-at
invariant-loop-at l = (length l.bytes ≡ 123) × (take l.at l.bytes ≡ take l.at (exists_text l.id))
