use Rattle.std.proofs.Common.{◌-◌, ◌≡◌, ◌≤◌, ◌+◌, take}
use Rattle.row_chunks.specs.Pieces.{count_in}
use Rattle.row_chunks.proofs.piece.find.Given as goal

abbrev pub invariant-loop-index : goal.invariant-loop-index
invariant-loop-index g l = record {
  within : l.index ≤ l.last;
  place : count_in (take l.index l.pieces) + l.offset ≡ l.at;
}

abbrev pub decreases-loop-index : goal.decreases-loop-index
decreases-loop-index g l = l.last - l.index
