use Rattle.std.proofs.Common.{◌≡◌, map, take}
use Rattle.scalar_val.specs.Values.{cell}
use Rattle.row_store.proofs.copying.key_of.Given as goal

abbrev pub invariant-loop-column : goal.invariant-loop-column
invariant-loop-column l = l.key.items ≡ map (cell l.row) (take l.column-index l.columns)
