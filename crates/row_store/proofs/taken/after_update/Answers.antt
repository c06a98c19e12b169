use Rattle.std.proofs.Common.{◌≡◌, ◌∙◌, sym, ap, subst}
use Rattle.std.specs.Prelude.{IfSome}
use Rattle.std.specs.List.{remove}
use Rattle.row_store.specs.Taken.{StandsFor}
use Rattle.row_store.specs.UniqueKeys.{keys_at}
use Rattle.row_store.proofs.TakenLaws.{set_as, same_keys_stand}
use Rattle.row_store.proofs.taken.after_update.Goals as goal

pub returns-then-has_same_keys : goal.returns-then-has_same_keys
returns-then-has_same_keys c =
    let columns = c.in_ok-taken.taken.columns in
    let same = subst (λ cs. keys_at cs c.cells.result.now ≡ keys_at cs c.args.cells.now) c.as_slice.ensures (c.has_same_keys.ensures c.if-has_same_keys.true) in
    let held = subst (λ taken. IfSome taken (StandsFor c.args.rows.now)) c.in_ok-taken.was c.requires.stands in
    λ key. held key ∙ same_keys_stand columns c.args.rows.now c.args.at c.index-rows-at.result c.args.cells.now key c.requires.range c.index-rows-at.is (ap (keys_at columns) (sym c.cells.ensures) ∙ same)

pub returns : goal.returns
returns c =
    subst (λ rows. IfSome c.grown_or_none.result (StandsFor rows)) (sym (set_as c.args.rows.now c.args.at c.args.cells.now c.requires.range))
    (c.grown_or_none.ensures (remove c.args.rows.now c.args.at) c.args.at c.in_ok-rest.ensures)
