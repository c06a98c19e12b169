use Rattle.std.proofs.Common.{◌≡◌, take}
use Rattle.row_store.specs.UniqueKeys.{keys_at}
use Rattle.row_store.proofs.key_set.has_same_keys.Given as goal

abbrev pub invariant-loop-column : goal.invariant-loop-column
invariant-loop-column l = keys_at (take l.column-index l.columns) l.a ≡ keys_at (take l.column-index l.columns) l.b
