use Rattle.std.proofs.Common.{◌≡◌, take}
use Rattle.std.specs.BTreeSet.{contains}
use Rattle.row_store.specs.declared.unique_key.UniqueKey.{UniqueKey}
use Rattle.row_store.specs.UniqueKeys.{key_order}
use Rattle.row_store.specs.Taken.{stands}
use Rattle.row_store.proofs.taken.taken_in.Given as goal

abbrev pub invariant-loop-row : goal.invariant-loop-row
invariant-loop-row l = (key : UniqueKey) → contains key_order l.keys key ≡ stands l.unique (take l.row-index l.rows) key
