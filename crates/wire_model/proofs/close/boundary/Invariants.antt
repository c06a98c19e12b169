use Rattle.std.proofs.Common.{◌≡◌, ◌≤◌}
use Rattle.wire_model.specs.CloseReasons.{boundary}
use Rattle.wire_model.specs.CloseReasons.{exists_text}
use Rattle.wire_model.proofs.close.boundary.Given as goal

abbrev pub invariant-loop-end : goal.invariant-loop-end
invariant-loop-end l = (l.end ≤ l.fn.end) × (boundary (exists_text l.id) l.end ≡ boundary (exists_text l.id) l.fn.end)

abbrev pub decreases-loop-end : goal.decreases-loop-end
decreases-loop-end l = l.end
