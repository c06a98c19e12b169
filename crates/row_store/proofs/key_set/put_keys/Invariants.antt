use Rattle.std.proofs.Common.{◌≡◌, ◌||◌}
use Rattle.std.specs.Ordering.{is_eq}
use Rattle.std.specs.List.{list_any}
use Rattle.std.specs.BTreeSet.{contains}
use Rattle.row_store.specs.declared.unique_key.UniqueKey.{UniqueKey}
use Rattle.row_store.specs.UniqueKeys.{key_order}
use Rattle.row_store.proofs.key_set.put_keys.Given as goal

abbrev pub invariant-loop-key : goal.invariant-loop-key
invariant-loop-key l = (key : UniqueKey) → contains key_order l.set key ≡ (contains key_order l.fn.set key || list_any (λ own. is_eq (key_order own key)) l.yielded)
