use Rattle.std.proofs.Common.{◌∙◌, sym, ap, ◌++◌, [], Option, append-nil}
use Rattle.std.specs.List.{cons_option}
use Rattle.stream_cursor.specs.declared.moves.Move.{Move}
use Rattle.hub_model.specs.Tellings.{move_of}
use Rattle.hub.proofs.Tellings.{made_more}
use Rattle.hub.proofs.publication.moves_of.Goals as goal
use Rattle.hub.proofs.publication.moves_of.Goals.{in-Some+in_ok-add, in_default}

pub loop-telling-preserved : goal.loop-telling-preserved
loop-telling-preserved c =
    let before = c.loop-telling.moves in
    let step = made_more move_of c.args.tellings.now c.loop-telling.telling-index c.telling-item.result
    c.in_ok-one.field-0 before c.loop-telling-test.true c.telling-item.is c.in_ok-one.ensures
    c.loop-telling.invariant in
    elim c.match-branch-2.branch [
      | in-Some+in_ok-add w ↦
          w.moves-is ∙ w.in_ok-add.ensures.ok
          ∙ ap (λ (o : Option Move). before ++ cons_option o []) (sym w.in-Some.is) ∙ step
      | in_default w ↦
          w.moves-is ∙ sym (append-nil before)
          ∙ ap (λ (o : Option Move). before ++ cons_option o []) (sym w.in_default.is) ∙ step
    ]
