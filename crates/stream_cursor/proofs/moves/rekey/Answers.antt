use Rattle.std.proofs.Common.{◌≡◌, ◌∙◌, ◌++◌, List, sym, ap, subst}
use Rattle.stream_cursor.specs.declared.moves.Move.{Move}
use Rattle.stream_cursor.specs.Steps.{AreThere, AreReady, pairs}
use Rattle.stream_cursor.proofs.Moved.{where_ok, there_of, ready_of}
use Rattle.stream_cursor.proofs.moves.rekey.Goals as goal

pub move_all-requires-clause-there : goal.move_all-requires-clause-there
move_all-requires-clause-there c =
    let moves = c.args.moves.now in
    let same = c.make_ready-made.ensures.entries ∙ c.unready.ensures.entries in
    subst (λ (ms : List Move). AreThere ms c.make_ready-made.new.map.entries) (sym c.as_slice-then-is_ok.ensures)
    (subst (AreThere moves) (sym same) (there_of moves c.args.map.now.entries c.requires.streams))

pub move_all-requires-clause-ready : goal.move_all-requires-clause-ready
move_all-requires-clause-ready c =
    let moves = c.args.moves.now in
    let made = where_ok c.make_ready-made.result _ (sym c.is_ok.ensures.value ∙ c.if-is_ok.true) c.make_ready-made.ensures.ok in
    let same : c.make_ready-made.new.map.ready ≡ pairs moves =
    made ∙ ap (λ rs. rs ++ pairs c.as_slice.result.now) c.unready.ensures.ready ∙ ap pairs c.as_slice.ensures in
    subst (λ (ms : List Move). AreReady ms c.make_ready-made.new.map.ready) (sym c.as_slice-then-is_ok.ensures)
    (subst (AreReady moves) (sym same) (ready_of moves))
