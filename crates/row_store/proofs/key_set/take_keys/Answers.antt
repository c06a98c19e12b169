use Rattle.std.proofs.Common.{arith}
use Rattle.std.specs.Ordering.{is_eq}
use Rattle.std.specs.BTreeSet.{contains}
use Rattle.row_store.specs.UniqueKeys.{key_order}
use Rattle.row_store.proofs.TakenLaws.{take_step}
use Rattle.row_store.proofs.key_set.take_keys.Goals as goal

pub loop-key-preserved : goal.loop-key-preserved
loop-key-preserved c = λ key.
    take_step (λ own. is_eq (key_order own key)) c.args.keys.now c.loop-key.key-index c.key-item.result _ (contains key_order c.loop-key.set key) (contains key_order c.args.set.now key)
    (omega arith) c.key-item.is (c.remove.ensures.updates.0 key) (c.loop-key.invariant key)
