use Rattle.std.proofs.Common.{◌≡◌, map, drop}
use Rattle.scalar_val.specs.Values.{cell}
use Rattle.data_model.specs.Rows.{key_cmp}
use Rattle.row_store.proofs.finding.compare_key.Given as goal

abbrev pub invariant-loop-column : goal.invariant-loop-column
invariant-loop-column l = key_cmp (map (cell l.row) (drop l.column-index l.columns)) l.rest ≡ key_cmp (map (cell l.row) l.columns) l.key
