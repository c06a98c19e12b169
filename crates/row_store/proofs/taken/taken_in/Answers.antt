use Rattle.std.proofs.Common.{◌∙◌, ap, arith}
use Rattle.std.specs.BTreeSet.{contains}
use Rattle.row_store.specs.UniqueKeys.{key_order, keys_at}
use Rattle.row_store.proofs.TakenLaws.{grow_more}
use Rattle.row_store.proofs.taken.taken_in.Goals as goal

pub loop-row-preserved : goal.loop-row-preserved
loop-row-preserved c = λ key.
    grow_more c.as_slice-unique.result.now c.args.rows.now c.loop-row.row-index c.row-item.result key c.in_ok-keys_of.field-0.items _ (contains key_order c.loop-row.keys key)
    (omega arith) c.row-item.is (c.loop-row.invariant key)
    (c.in_ok-keys_of.ensures ∙ ap (keys_at c.as_slice-unique.result.now) c.cells.ensures) (c.in_ok-put_keys.ensures key)
