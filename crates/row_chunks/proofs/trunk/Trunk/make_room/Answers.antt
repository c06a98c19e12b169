use Rattle.std.proofs.Common.{◌≡◌, length, ap, arith}
use Rattle.row_chunks.specs.Pieces.{count_in, rows_in}
use Rattle.row_chunks.proofs.Pieces.{counted_rows}
use Rattle.row_chunks.proofs.trunk.Trunk.make_room.Goals as goal

pub find-index-requires-clause-within : goal.find-index-requires-clause-within
find-index-requires-clause-within g c =
    let n : length (rows_in c.self.inside.branches.items) ≡ length c.args.self.now = ap length c.self.view_is in
    let k : count_in c.as_slice.result.now ≡ count_in c.self.inside.branches.items = ap count_in c.as_slice.ensures.value in
    omega (arith, counted_rows c.self.inside.branches.items c.self.invariant.0, n, k)
