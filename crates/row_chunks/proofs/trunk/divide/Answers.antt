use Rattle.std.proofs.Common.{◌≡◌, ◌∙◌, ◌-◌, ◌++◌, List, length, set, take, drop, sym, ap, subst, arith}
use Rattle.std.proofs.lemmas.List.{take_rest}
use Rattle.std.proofs.lemmas.List.Elements.{All-take, All-drop}
use Rattle.row_chunks.specs.Pieces.{Held, AllCounted, IsCounted, rows_in}
use Rattle.row_chunks.proofs.Pieces.{divided_counted, divided_same, parted_rows, node_within, front_within, back_within}
use Rattle.row_chunks.proofs.trunk.divide.Goals as goal

pub branch_of-requires-clause-room : goal.branch_of-requires-clause-room
branch_of-requires-clause-room g c =
    let chunks = c.as_slice-chunks.result.now in
    let whole : length (rows_in chunks) ≡ length c.index.result.now.node = ap length (ap rows_in c.as_slice-chunks.ensures.value ∙ c.branch.view_is ∙ c.node-branch.ensures) in
    let within = node_within c.args.branches.now.items c.args.index c.index.result.now c.requires.within c.requires.counted c.index.ensures in
    omega (arith, whole, within, front_within chunks c.cut_of-cut.result, c.requires.room)

pub branch_of-requires-2-clause-counted : goal.branch_of-requires-2-clause-counted
branch_of-requires-2-clause-counted g c =
    let chunks = c.as_slice-chunks.result.now in
    let cut = c.cut_of-cut.result in
    let counted = subst (λ (ps : List (Held (List g.row.T.Denot))). AllCounted ps) (sym c.as_slice-chunks.ensures.value) c.branch.invariant in
    All-take IsCounted (length chunks - cut) (drop cut chunks) (All-drop IsCounted cut chunks counted)

pub branch_of-requires-2-clause-room : goal.branch_of-requires-2-clause-room
branch_of-requires-2-clause-room g c =
    let chunks = c.as_slice-chunks.result.now in
    let cut = c.cut_of-cut.result in
    let whole : length (rows_in chunks) ≡ length c.index.result.now.node = ap length (ap rows_in c.as_slice-chunks.ensures.value ∙ c.branch.view_is ∙ c.node-branch.ensures) in
    let within = node_within c.args.branches.now.items c.args.index c.index.result.now c.requires.within c.requires.counted c.index.ensures in
    let rest : length (rows_in (take (length chunks - cut) (drop cut chunks))) ≡ length (rows_in (drop cut chunks)) = ap (λ (ps : List (Held (List g.row.T.Denot))). length (rows_in ps)) (take_rest chunks cut) in
    omega (arith, whole, within, rest, back_within chunks cut, c.requires.room)

pub returns-clause-counted : goal.returns-clause-counted
returns-clause-counted g c =
    subst (λ (ps : List (Held (List g.row.T.Denot))). AllCounted (set ps c.args.index c.in_ok-left.left)) (sym c.in_ok-insert.ensures.items)
    (divided_counted c.args.branches.now.items c.args.index c.in_ok-left.left c.in_ok-right.right c.requires.within c.requires.counted c.in_ok-left.ensures.counted c.in_ok-right.ensures.counted)

pub returns-clause-same : goal.returns-clause-same
returns-clause-same g c =
    let chunks = c.as_slice-chunks.result.now in
    let cut = c.cut_of-cut.result in
    let left = c.in_ok-left.left in
    let right = c.in_ok-right.right in
    let is : left.node ++ right.node ≡ c.index.result.now.node =
    ap (λ (xs : List g.row.T.Denot). xs ++ right.node) c.in_ok-left.ensures.rows ∙ ap (λ (xs : List g.row.T.Denot). rows_in (take cut chunks) ++ xs) (c.in_ok-right.ensures.rows ∙ ap rows_in (take_rest chunks cut)) ∙ parted_rows chunks cut ∙ ap rows_in c.as_slice-chunks.ensures.value ∙ c.branch.view_is ∙ c.node-branch.ensures in
    ap (λ (ps : List (Held (List g.row.T.Denot))). rows_in (set ps c.args.index left)) c.in_ok-insert.ensures.items
    ∙ divided_same c.args.branches.now.items c.args.index c.index.result.now left right c.requires.within c.index.ensures is
