use Rattle.std.proofs.Common.{◌≡◌, ◌∙◌, ◌++◌, List, length, set, sym, ap, subst, arith}
use Rattle.std.specs.List.{insert}
use Rattle.row_chunks.specs.Pieces.{Held, AllCounted, rows_in}
use Rattle.row_chunks.proofs.Pieces.{divided_counted, divided_edit}
use Rattle.row_chunks.proofs.branch.divide.Goals as goal

pub returns-clause-counted : goal.returns-clause-counted
returns-clause-counted g c =
    let left = c.in_ok-left.left in
    let right = c.in_ok-right.right in
    let l : left.count ≡ length left.node = c.in_ok-left.ensures.count ∙ ap length (c.as_slice.ensures.rows ∙ sym c.in_ok-left.ensures.node) in
    let r : right.count ≡ length right.node = c.in_ok-right.ensures.count ∙ ap length (c.as_slice-2.ensures.rows ∙ sym c.in_ok-right.ensures.node) in
    let m : length left.node ≡ length c.in_ok-halves.halves.left = ap length c.in_ok-left.ensures.node in
    let n : length right.node ≡ length c.in_ok-halves.halves.right = ap length c.in_ok-right.ensures.node in
    subst (λ (ps : List (Held (List g.row.T.Denot))). AllCounted (set ps c.args.spot.index left)) (sym c.in_ok-insert.ensures.items)
    (divided_counted c.args.chunks.now.items c.args.spot.index left right c.requires.spot.within c.requires.counted
    record { same = l; some = omega (arith, c.in_ok-halves.ensures.left) } record { same = r; some = omega (arith, c.in_ok-halves.ensures.right) })

pub returns-clause-ok : goal.returns-clause-ok
returns-clause-ok g c =
    let left = c.in_ok-left.left in
    let right = c.in_ok-right.right in
    let is : left.node ++ right.node ≡ insert c.index.result.now.node c.args.spot.offset c.args.row =
    ap (λ (xs : List g.row.T.Denot). xs ++ right.node) c.in_ok-left.ensures.node ∙ ap (λ (xs : List g.row.T.Denot). c.in_ok-halves.halves.left ++ xs) c.in_ok-right.ensures.node ∙ c.in_ok-halves.ensures.rows ∙ ap (λ (xs : List g.row.T.Denot). insert xs c.args.spot.offset c.args.row) c.node.ensures in
    ap (λ (ps : List (Held (List g.row.T.Denot))). rows_in (set ps c.args.spot.index left)) c.in_ok-insert.ensures.items
    ∙ divided_edit c.args.row c.args.chunks.now.items c.args.at c.args.spot.index c.args.spot.offset c.index.result.now left right c.requires.counted c.requires.spot c.requires.place c.index.ensures is
