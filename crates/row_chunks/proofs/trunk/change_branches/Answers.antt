use Rattle.std.proofs.Common.{◌∙◌, List, refl, ap, subst}
use Rattle.std.proofs.lemmas.Result.{on_ok_weaker}
use Rattle.row_chunks.specs.Pieces.{Held, IsSpot, rows_in}
use Rattle.row_chunks.proofs.Pieces.{place_counted, place_read, changed_read, removed_read, read_within, room_within}
use Rattle.row_chunks.proofs.trunk.change_branches.Goals as goal

pub find-spot-requires-clause-within : goal.find-spot-requires-clause-within
find-spot-requires-clause-within g c =
    place_counted c.args.edit c.args.branches.now.items c.as_slice.result.now c.args.at c.as_slice.ensures.value c.requires.counted c.requires.place

pub returns-then-is_last-clause-ok : goal.returns-then-is_last-clause-ok
returns-then-is_last-clause-ok g c =
    let spot = subst (λ (ps : List (Held (List g.row.T.Denot))). IsSpot ps c.args.at c.find-spot.result.index c.find-spot.result.offset) c.as_slice.ensures.value c.find-spot.ensures in
    ap rows_in c.remove.ensures.items ∙ removed_read c.args.edit c.args.branches.now.items c.args.at c.find-spot.result.index c.find-spot.result.offset c.count.result c.index.result.now c.requires.counted spot c.requires.place c.index.ensures c.count.ensures (c.is_last.ensures.last c.if-is_last.true)

pub change_piece-requires-clause-place : goal.change_piece-requires-clause-place
change_piece-requires-clause-place g c =
    let spot = subst (λ (ps : List (Held (List g.row.T.Denot))). IsSpot ps c.args.at c.find-spot.result.index c.find-spot.result.offset) c.as_slice.ensures.value c.find-spot.ensures in
    place_read c.args.edit c.args.edit c.args.branches.now.items c.args.at c.find-spot.result.index c.find-spot.result.offset c.index_mut.result.now refl c.requires.counted spot c.requires.place c.index_mut.ensures.value

pub change_piece-requires-clause-room : goal.change_piece-requires-clause-room
change_piece-requires-clause-room g c =
    let spot = subst (λ (ps : List (Held (List g.row.T.Denot))). IsSpot ps c.args.at c.find-spot.result.index c.find-spot.result.offset) c.as_slice.ensures.value c.find-spot.ensures in
    room_within c.args.edit _ c.index_mut.result.now.count (read_within c.args.branches.now.items c.find-spot.result.index c.index_mut.result.now spot.within c.requires.counted c.index_mut.ensures.value) c.requires.room

pub returns-clause-ok : goal.returns-clause-ok
returns-clause-ok g c =
    let spot = subst (λ (ps : List (Held (List g.row.T.Denot))). IsSpot ps c.args.at c.find-spot.result.index c.find-spot.result.offset) c.as_slice.ensures.value c.find-spot.ensures in
    on_ok_weaker c.change_piece.result (changed_read c.args.edit c.args.edit c.args.branches.now.items c.args.at c.find-spot.result.index c.find-spot.result.offset c.index_mut.result.now c.change_piece.new.piece refl c.requires.counted spot c.requires.place c.index_mut.ensures.value) c.change_piece.ensures.ok
