use Rattle.std.proofs.Common.{◌≡◌, ◌∙◌, sym, ap, subst}
use Rattle.row_store.specs.UniqueKeys.{keys_at}
use Rattle.row_store.proofs.TakenLaws.{same_keys_apart}
use Rattle.row_store.proofs.taken.clashes_elsewhere_by.Goals as goal

pub returns-then-has_same_keys : goal.returns-then-has_same_keys
returns-then-has_same_keys c =
    let same = subst (λ cs. keys_at cs c.cells.result.now ≡ keys_at cs c.args.cells.now) c.as_slice.ensures (c.has_same_keys.ensures c.if-has_same_keys.true) in
    sym (same_keys_apart c.args.table.now c.args.rows.now c.args.at c.index-rows-at.result c.args.cells.now c.requires.fits c.requires.range c.index-rows-at.is (ap (keys_at c.args.table.now.unique) (sym c.cells.ensures) ∙ same))
