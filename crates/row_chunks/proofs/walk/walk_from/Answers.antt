use Rattle.std.proofs.Common.{◌≡◌, ◌∙◌, ◌+◌, ◌<◌, ◌++◌, List, length, drop, sym, ap, subst, arith}
use Rattle.std.proofs.lemmas.List.{take_rest}
use Rattle.row_chunks.specs.Pieces.{Held, AllCounted, rows_in}
use Rattle.row_chunks.proofs.Pieces.{counted_rows, dropped_rows, read_inside}
use Rattle.row_chunks.proofs.walk.walk_from.Goals as goal

pub find-spot-requires-clause-within : goal.find-spot-requires-clause-within
find-spot-requires-clause-within g c =
    let pieces = c.as_slice-branches.result.now in
    let counted = subst (λ (ps : List (Held (List g.row.T.Denot))). AllCounted ps) (sym c.as_slice-branches.ensures.value) c.trunk.invariant.0 in
    let n : length (rows_in pieces) ≡ length c.args.trunk.now = ap length (ap rows_in c.as_slice-branches.ensures.value ∙ c.trunk.view_is) in
    omega (arith, counted_rows pieces counted, n)

pub within-requires-clause-place : goal.within-requires-clause-place
within-requires-clause-place g c =
    let pieces = c.as_slice-branches.result.now in
    let counted = subst (λ (ps : List (Held (List g.row.T.Denot))). AllCounted ps) (sym c.as_slice-branches.ensures.value) c.trunk.invariant.0 in
    let n : length (rows_in pieces) ≡ length c.args.trunk.now = ap length (ap rows_in c.as_slice-branches.ensures.value ∙ c.trunk.view_is) in
    let before : c.args.place < length (rows_in pieces) = omega (arith, n) in
    subst (λ (xs : List g.row.T.Denot). c.find-spot.result.offset < length xs) (sym c.node-branch.ensures)
    (read_inside pieces c.args.place c.find-spot.result.index c.find-spot.result.offset c.index-branches-spot.result counted c.find-spot.ensures before c.index-branches-spot.is)

pub returns : goal.returns
returns g c =
    let pieces = c.as_slice-branches.result.now in
    let i = c.find-spot.result.index in
    let offset = c.find-spot.result.offset in
    let counted = subst (λ (ps : List (Held (List g.row.T.Denot))). AllCounted ps) (sym c.as_slice-branches.ensures.value) c.trunk.invariant.0 in
    c.within.ensures
    ∙ ap (λ (ps : List (Held (List g.row.T.Denot))). drop offset c.node-branch.result.now ++ rows_in ps) (take_rest pieces (i + 1))
    ∙ ap (λ (xs : List g.row.T.Denot). drop offset xs ++ rows_in (drop (i + 1) pieces)) c.node-branch.ensures
    ∙ sym (dropped_rows pieces c.args.place i offset c.index-branches-spot.result counted c.find-spot.ensures c.index-branches-spot.is)
    ∙ ap (drop c.args.place) (ap rows_in c.as_slice-branches.ensures.value ∙ c.trunk.view_is)
