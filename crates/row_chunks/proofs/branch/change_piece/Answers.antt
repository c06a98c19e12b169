use Rattle.std.proofs.Common.{length, ap, arith}
use Rattle.row_chunks.proofs.Pieces.{room_from}
use Rattle.row_chunks.proofs.branch.change_piece.Goals as goal

pub count_after-count-requires-clause-room : goal.count_after-count-requires-clause-room
count_after-count-requires-clause-room g c =
    room_from c.args.edit _ (omega (arith, ap length c.as_slice.ensures.rows, c.as_slice.ensures.most))
