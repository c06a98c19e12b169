use Rattle.std.proofs.Common.{◌≡◌, take}
use Rattle.row_chunks.specs.Pieces.{count_in}
use Rattle.row_chunks.proofs.piece.count_in.Given as goal

abbrev pub invariant-loop-piece : goal.invariant-loop-piece
invariant-loop-piece g l = l.count ≡ count_in (take l.piece-index l.pieces)
