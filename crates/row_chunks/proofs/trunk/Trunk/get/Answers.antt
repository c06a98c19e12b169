use Rattle.std.proofs.Common.{◌≡◌, ◌<◌, List, length, get_or, sym, ap, subst, arith}
use Rattle.row_chunks.specs.Pieces.{Held, IsSpot, count_in, rows_in}
use Rattle.row_chunks.proofs.Pieces.{counted_rows, read_inside, read_row}
use Rattle.row_chunks.proofs.trunk.Trunk.get.Goals as goal

pub find-spot-requires-clause-within : goal.find-spot-requires-clause-within
find-spot-requires-clause-within g c =
    let n : length (rows_in c.self.inside.branches.items) ≡ length c.args.self.now = ap length c.self.view_is in
    let k : count_in c.as_slice.result.now ≡ count_in c.self.inside.branches.items = ap count_in c.as_slice.ensures.value in
    omega (arith, counted_rows c.self.inside.branches.items c.self.invariant.0, n, k)

pub get-requires : goal.get-requires
get-requires g c =
    let pieces = c.self.inside.branches.items in
    let spot = subst (λ (ps : List (Held (List g.row.T.Denot))). IsSpot ps c.args.at c.find-spot.result.index c.find-spot.result.offset) c.as_slice.ensures.value c.find-spot.ensures in
    let before = subst (λ (xs : List g.row.T.Denot). c.args.at < length xs) (sym c.self.view_is) c.requires in
    subst (λ (xs : List g.row.T.Denot). c.find-spot.result.offset < length xs) (sym c.node-branch.ensures)
    (read_inside pieces c.args.at c.find-spot.result.index c.find-spot.result.offset c.index.result.now c.self.invariant.0 spot before c.index.ensures)

pub returns : goal.returns
returns g c =
    let pieces = c.self.inside.branches.items in
    let x = c.get.result.now in
    let spot = subst (λ (ps : List (Held (List g.row.T.Denot))). IsSpot ps c.args.at c.find-spot.result.index c.find-spot.result.offset) c.as_slice.ensures.value c.find-spot.ensures in
    let before = subst (λ (xs : List g.row.T.Denot). c.args.at < length xs) (sym c.self.view_is) c.requires in
    let is = subst (λ (xs : List g.row.T.Denot). x ≡ get_or xs c.find-spot.result.offset x) c.node-branch.ensures c.get.ensures in
    subst (λ (xs : List g.row.T.Denot). x ≡ get_or xs c.args.at x) c.self.view_is
    (read_row pieces c.args.at c.find-spot.result.index c.find-spot.result.offset c.index.result.now x c.self.invariant.0 spot before c.index.ensures is)
