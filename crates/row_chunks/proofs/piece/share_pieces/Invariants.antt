use Rattle.std.proofs.Common.{◌≡◌, take}
use Rattle.row_chunks.proofs.piece.share_pieces.Given as goal

abbrev pub invariant-loop-piece : goal.invariant-loop-piece
invariant-loop-piece g l = l.shares.items ≡ take l.piece-index l.pieces
