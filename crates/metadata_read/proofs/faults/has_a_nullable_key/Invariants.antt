use Rattle.std.proofs.Common.{◌≡◌, ◌&&◌, drop}
use Rattle.std.specs.List.{list_any}
use Rattle.std.specs.Str.{bytes_eq}
use Rattle.metadata_read.proofs.faults.has_a_nullable_key.Given as goal

abbrev pub invariant-loop-column : goal.invariant-loop-column
invariant-loop-column l = list_any (λ c. c.nullable && list_any (bytes_eq c.name) l.key) (drop l.column-index l.columns) ≡ list_any (λ c. c.nullable && list_any (bytes_eq c.name) l.key) l.columns
