use Rattle.std.proofs.Common.{◌≡◌, drop}
use Rattle.std.specs.List.{list_any}
use Rattle.std.specs.BTreeSet.{contains}
use Rattle.row_store.specs.UniqueKeys.{key_order}
use Rattle.row_store.proofs.key_set.any_taken.Given as goal

abbrev pub invariant-loop-key : goal.invariant-loop-key
invariant-loop-key l = list_any (contains key_order l.set) (drop l.key-index l.keys) ≡ list_any (contains key_order l.set) l.keys
