use Rattle.std.proofs.Common.{◌≡◌, ◌∙◌, ◌<◌, List, length, get_or, sym, ap, subst, arith}
use Rattle.row_chunks.specs.Pieces.{Held, IsSpot, count_in, rows_in}
use Rattle.row_chunks.proofs.Pieces.{counted_rows, read_inside, read_row}
use Rattle.row_chunks.proofs.branch.Branch.get.Goals as goal

pub bounds-as_slice-spot : goal.bounds-as_slice-spot
bounds-as_slice-spot g c =
    let pieces = c.self.inside.chunks.items in
    let spot = subst (λ (ps : List (Held (List g.row.T.Denot))). IsSpot ps c.args.at c.find-spot.result.index c.find-spot.result.offset) c.as_slice.ensures.value c.find-spot.ensures in
    let before = subst (λ (xs : List g.row.T.Denot). c.args.at < length xs) (sym c.self.view_is) c.requires in
    subst (λ (xs : List g.row.T.Denot). c.find-spot.result.offset < length xs) (sym (c.as_slice-2.ensures.rows ∙ c.node-chunk.ensures))
    (read_inside pieces c.args.at c.find-spot.result.index c.find-spot.result.offset c.index.result.now c.self.invariant spot before c.index.ensures)

pub returns : goal.returns
returns g c =
    let pieces = c.self.inside.chunks.items in
    let x = c.index-as_slice-spot.result in
    let spot = subst (λ (ps : List (Held (List g.row.T.Denot))). IsSpot ps c.args.at c.find-spot.result.index c.find-spot.result.offset) c.as_slice.ensures.value c.find-spot.ensures in
    let before = subst (λ (xs : List g.row.T.Denot). c.args.at < length xs) (sym c.self.view_is) c.requires in
    let is = subst (λ (xs : List g.row.T.Denot). x ≡ get_or xs c.find-spot.result.offset x) (c.as_slice-2.ensures.rows ∙ c.node-chunk.ensures) c.index-as_slice-spot.is in
    subst (λ (xs : List g.row.T.Denot). x ≡ get_or xs c.args.at x) c.self.view_is
    (read_row pieces c.args.at c.find-spot.result.index c.find-spot.result.offset c.index.result.now x c.self.invariant spot before c.index.ensures is)

pub find-spot-requires-clause-within : goal.find-spot-requires-clause-within
find-spot-requires-clause-within g c =
    let n : length (rows_in c.self.inside.chunks.items) ≡ length c.args.self.now = ap length c.self.view_is in
    let k : count_in c.as_slice.result.now ≡ count_in c.self.inside.chunks.items = ap count_in c.as_slice.ensures.value in
    omega (arith, counted_rows c.self.inside.chunks.items c.self.invariant, n, k)
