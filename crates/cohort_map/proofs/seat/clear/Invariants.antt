use Rattle.std.proofs.Common.{◌≡◌, ◌++◌, map, take, drop}
use Rattle.std.proofs.Common.{false}
use Rattle.cohort_map.proofs.seat.clear.Given as goal

abbrev pub invariant-loop-place : goal.invariant-loop-place
invariant-loop-place l = l.flags ≡ map (λ _. false) (take l.place l.fn.flags) ++ drop l.place l.fn.flags
