use Rattle.std.proofs.Common.{◌≡◌, ◌∙◌, ◌+◌, ◌-◌, ◌++◌, List, length, take, drop, append_assoc, sym, ap, subst, arith}
use Rattle.std.proofs.lemmas.List.{take_rest}
use Rattle.row_chunks.specs.Pieces.{Held, AllCounted, rows_in}
use Rattle.row_chunks.proofs.Pieces.{counted_rows, dropped_rows}
use Rattle.row_chunks.proofs.walk.within.Goals as goal

pub find-spot-requires-clause-within : goal.find-spot-requires-clause-within
find-spot-requires-clause-within g c =
    let pieces = c.as_slice-chunks.result.now in
    let counted = subst (λ (ps : List (Held (List g.row.T.Denot))). AllCounted ps) (sym c.as_slice-chunks.ensures.value) c.branch.invariant in
    let n : length (rows_in pieces) ≡ length c.args.branch.now = ap length (ap rows_in c.as_slice-chunks.ensures.value ∙ c.branch.view_is) in
    omega (arith, counted_rows pieces counted, n, c.requires.place)

pub returns : goal.returns
returns g c =
    let pieces = c.as_slice-chunks.result.now in
    let rows = c.as_slice-rows.result.now in
    let i = c.find-spot.result.index in
    let offset = c.find-spot.result.offset in
    let q = c.index-chunks-spot.result in
    let later = rows_in c.args.branches.now in
    let counted = subst (λ (ps : List (Held (List g.row.T.Denot))). AllCounted ps) (sym c.as_slice-chunks.ensures.value) c.branch.invariant in
    let front : take (length rows - offset) (drop offset rows) ≡ drop offset q.node = take_rest rows offset ∙ ap (drop offset) (c.as_slice-rows.ensures.rows ∙ c.node.ensures) in
    ap (λ (xs : List g.row.T.Denot). xs ++ (rows_in (take (length pieces - (i + 1)) (drop (i + 1) pieces)) ++ later)) front
    ∙ ap (λ (ps : List (Held (List g.row.T.Denot))). drop offset q.node ++ (rows_in ps ++ later)) (take_rest pieces (i + 1))
    ∙ sym (append_assoc (drop offset q.node) (rows_in (drop (i + 1) pieces)) later)
    ∙ ap (λ (xs : List g.row.T.Denot). xs ++ later) (sym (dropped_rows pieces c.args.at i offset q counted c.find-spot.ensures c.index-chunks-spot.is) ∙ ap (drop c.args.at) (ap rows_in c.as_slice-chunks.ensures.value ∙ c.branch.view_is))
