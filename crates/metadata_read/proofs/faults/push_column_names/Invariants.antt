use Rattle.std.proofs.Common.{◌≡◌, ◌++◌, map, take}
use Rattle.metadata_read.proofs.faults.push_column_names.Given as goal

abbrev pub invariant-loop-column : goal.invariant-loop-column
invariant-loop-column l = l.names ≡ l.fn.names ++ map (λ c. c.name) (take l.column-index l.columns)
