use Rattle.std.specs.Ordering.{is_eq}
use Rattle.std.specs.BTreeSet.{contains}
use Rattle.row_store.specs.UniqueKeys.{key_order}
use Rattle.row_store.proofs.TakenLaws.{put_step}
use Rattle.row_store.proofs.key_set.put_keys.Goals as goal

pub loop-key-preserved : goal.loop-key-preserved
loop-key-preserved c = λ key.
    put_step (λ own. is_eq (key_order own key)) c.loop-key.yielded c.in-Some.key _ (contains key_order c.loop-key.set key) (contains key_order c.args.set.now key)
    (c.in_ok-insert.ensures.updates.0 key) (c.loop-key.invariant key)
