use Rattle.std.proofs.Common.{◌∙◌, ap}
use Rattle.std.specs.BTreeSet.{contains}
use Rattle.row_store.specs.UniqueKeys.{key_order, keys_at}
use Rattle.row_store.proofs.TakenLaws.{shrink}
use Rattle.row_store.proofs.taken.shrunk.Goals as goal

pub returns : goal.returns
returns c = λ key.
    shrink c.args.table.now c.args.rows.now c.args.at c.index-rows-at.result key c.args.taken.columns c.as_slice-2.result.now _ (contains key_order c.args.taken.keys key)
    c.requires.fits c.requires.range c.requires.columns c.index-rows-at.is (c.requires.stands key)
    (c.as_slice-2.ensures.value ∙ c.in_ok-own.ensures ∙ ap (λ cs. keys_at cs c.cells.result.now) c.as_slice.ensures ∙ ap (keys_at c.args.taken.columns) c.cells.ensures)
    (c.take_keys.ensures key)
