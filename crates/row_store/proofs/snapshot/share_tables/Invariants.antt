use Rattle.std.proofs.Common.{◌≡◌, map, take}
use Rattle.std.specs.Arc.{arc_value}
use Rattle.row_store.proofs.snapshot.share_tables.Given as goal

abbrev pub invariant-loop-rows : goal.invariant-loop-rows
invariant-loop-rows l = map (λ rows. arc_value rows) l.shares.items ≡ map (λ rows. arc_value rows) (take l.rows-index l.tables)
