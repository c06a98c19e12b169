use Rattle.std.proofs.Common.{◌∙◌, ◌+◌, List, ◌∷◌, drop, sym, ap, subst}
use Rattle.std.proofs.lemmas.List.{drop_all}
use Rattle.cohort_map.proofs.Alls.{drop_at}
use Rattle.stream_cursor.specs.declared.moves.Move.{Move}
use Rattle.stream_cursor.specs.Moves.{AreApart, rekeyed}
use Rattle.stream_cursor.specs.Steps.{AreThere, AreReady}
use Rattle.stream_cursor.proofs.Moved.{rekeyed_first, there_after, unmoved}
use Rattle.stream_cursor.proofs.moves.move_all.Goals as goal

pub loop-one-preserved : goal.loop-one-preserved
loop-one-preserved c =
    let moves = c.args.moves.now in
    let entries = c.loop-one.map.entries in
    let m = c.one-item.result in
    let rest = drop (c.loop-one.one-index + 1) moves in
    let split = drop_at moves c.loop-one.one-index m c.loop-one-test.true c.one-item.is in
    let before = c.loop-one.invariant in
    let there : AreThere (m ∷ rest) entries = subst (λ (ms : List Move). AreThere ms entries) split before.there in
    let ready : AreReady (m ∷ rest) c.loop-one.map.ready = subst (λ (ms : List Move). AreReady ms c.loop-one.map.ready) split before.ready in
    let apart : AreApart (m ∷ rest) = subst AreApart split before.apart in
    record {
      there = subst (AreThere rest) (sym c.rehome.ensures.entries) (there_after m.sub m.cursor rest entries there.1);
      ready = subst (AreReady rest) (sym c.rehome.ensures.ready) ready.1;
      apart = apart.1;
      left = ap (rekeyed rest) c.rehome.ensures.entries ∙ rekeyed_first m rest entries apart.0 ∙ ap (λ (ms : List Move). rekeyed ms entries) (sym split) ∙ before.left;
    }

pub returns : goal.returns
returns c =
    let entries = c.loop-one.map.entries in
    let all = drop_all c.loop-one.one-index c.args.moves.now c.loop-one-test.false in
    record {
      entries = sym (unmoved entries) ∙ ap (λ (ms : List Move). rekeyed ms entries) (sym all) ∙ c.loop-one.invariant.left;
    }
