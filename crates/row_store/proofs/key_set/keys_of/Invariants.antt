use Rattle.std.proofs.Common.{◌≡◌, take}
use Rattle.scalar_val.specs.declared.val.Val.TheVariants as val
use Rattle.row_store.specs.UniqueKeys.{keys_at}
use Rattle.row_store.proofs.key_set.keys_of.Given as goal

abbrev pub invariant-loop-column : goal.invariant-loop-column
invariant-loop-column l = record {
  null : l.null ≡ val.Null;
  keys : l.keys.items ≡ keys_at (take l.column-index l.columns) l.cells;
}
