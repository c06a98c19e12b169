use Rattle.std.proofs.Common.{◌≡◌, [], map, take}
use Rattle.std.specs.Arc.{arc_value}
use Rattle.data_model.specs.declared.catalog.TableDef.{TableDef}
use Rattle.row_store.proofs.snapshot.empty_tables.Given as goal

abbrev pub invariant-loop-table : goal.invariant-loop-table
invariant-loop-table l = map (λ rows. arc_value rows) l.made.items ≡ map (λ (t : TableDef). []) (take l._table-index l.tables)
