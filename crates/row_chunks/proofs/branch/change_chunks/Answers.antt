use Rattle.std.proofs.Common.{◌∙◌, List, ap, subst}
use Rattle.std.proofs.lemmas.Result.{on_ok_weaker}
use Rattle.row_chunks.specs.Pieces.{Held, IsSpot, rows_in}
use Rattle.row_chunks.proofs.Pieces.{place_counted, place_read, changed_read, removed_read}
use Rattle.row_chunks.proofs.branch.change_chunks.Goals as goal

pub find-spot-requires-clause-within : goal.find-spot-requires-clause-within
find-spot-requires-clause-within g c =
    place_counted c.args.edit c.args.chunks.now.items c.as_slice.result.now c.args.at c.as_slice.ensures.value c.requires.counted c.requires.place

pub returns-then-is_last-clause-ok : goal.returns-then-is_last-clause-ok
returns-then-is_last-clause-ok g c =
    let spot = subst (λ (ps : List (Held (List g.row.T.Denot))). IsSpot ps c.args.at c.find-spot.result.index c.find-spot.result.offset) c.as_slice.ensures.value c.find-spot.ensures in
    ap rows_in c.remove.ensures.items ∙ removed_read c.args.edit c.args.chunks.now.items c.args.at c.find-spot.result.index c.find-spot.result.offset c.count-count.result c.index.result.now c.requires.counted spot c.requires.place c.index.ensures c.count-count.ensures (c.is_last.ensures.last c.if-is_last.true)

pub change_piece-requires-in-Replace-clause-place : goal.change_piece-requires-in-Replace-clause-place
change_piece-requires-in-Replace-clause-place g c =
    let spot = subst (λ (ps : List (Held (List g.row.T.Denot))). IsSpot ps c.args.at c.find-spot.result.index c.find-spot.result.offset) c.as_slice.ensures.value c.find-spot.ensures in
    place_read _ c.args.edit c.args.chunks.now.items c.args.at c.find-spot.result.index c.find-spot.result.offset c.index_mut-in-Replace.result.now c.in-Replace.is c.requires.counted spot c.requires.place c.index_mut-in-Replace.ensures.value

pub change_piece-requires-in-Remove-clause-place : goal.change_piece-requires-in-Remove-clause-place
change_piece-requires-in-Remove-clause-place g c =
    let spot = subst (λ (ps : List (Held (List g.row.T.Denot))). IsSpot ps c.args.at c.find-spot.result.index c.find-spot.result.offset) c.as_slice.ensures.value c.find-spot.ensures in
    place_read _ c.args.edit c.args.chunks.now.items c.args.at c.find-spot.result.index c.find-spot.result.offset c.index_mut-in-Remove.result.now c.in-Remove.is c.requires.counted spot c.requires.place c.index_mut-in-Remove.ensures.value

pub returns-in-Replace-clause-ok : goal.returns-in-Replace-clause-ok
returns-in-Replace-clause-ok g c =
    let spot = subst (λ (ps : List (Held (List g.row.T.Denot))). IsSpot ps c.args.at c.find-spot.result.index c.find-spot.result.offset) c.as_slice.ensures.value c.find-spot.ensures in
    on_ok_weaker c.change_piece-in-Replace.result (changed_read _ c.args.edit c.args.chunks.now.items c.args.at c.find-spot.result.index c.find-spot.result.offset c.index_mut-in-Replace.result.now c.change_piece-in-Replace.new.piece c.in-Replace.is c.requires.counted spot c.requires.place c.index_mut-in-Replace.ensures.value) c.change_piece-in-Replace.ensures.ok

pub returns-in-Remove-clause-ok : goal.returns-in-Remove-clause-ok
returns-in-Remove-clause-ok g c =
    let spot = subst (λ (ps : List (Held (List g.row.T.Denot))). IsSpot ps c.args.at c.find-spot.result.index c.find-spot.result.offset) c.as_slice.ensures.value c.find-spot.ensures in
    on_ok_weaker c.change_piece-in-Remove.result (changed_read _ c.args.edit c.args.chunks.now.items c.args.at c.find-spot.result.index c.find-spot.result.offset c.index_mut-in-Remove.result.now c.change_piece-in-Remove.new.piece c.in-Remove.is c.requires.counted spot c.requires.place c.index_mut-in-Remove.ensures.value) c.change_piece-in-Remove.ensures.ok

pub returns-else-count-ge-MOST-clause-ok : goal.returns-else-count-ge-MOST-clause-ok
returns-else-count-ge-MOST-clause-ok g c =
    let spot = subst (λ (ps : List (Held (List g.row.T.Denot))). IsSpot ps c.args.at c.find-spot.result.index c.find-spot.result.offset) c.as_slice.ensures.value c.find-spot.ensures in
    on_ok_weaker c.change_piece.result (changed_read _ c.args.edit c.args.chunks.now.items c.args.at c.find-spot.result.index c.find-spot.result.offset c.index_mut.result.now c.change_piece.new.piece c.in-Insert.is c.requires.counted spot c.requires.place c.index_mut.ensures.value) c.change_piece.ensures.ok
