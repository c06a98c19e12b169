-- What a snapshot's owners of tables hold. This project's own.
use Rattle.std.specs.Prelude.{map, IsTrue}
use Rattle.std.specs.Arc.{arc_value}
use Rattle.data_model.specs.Rows.{Fits}
use Rattle.row_store.specs.declared.snapshot.Snapshot.TheInside.{Inside}
use Rattle.row_store.specs.Held.{Held, is_numbered}

abbrev pub seen : Inside → Held
seen a = record { catalog = arc_value a.catalog; tables = map (λ rows. arc_value rows) a.tables.items }

abbrev pub IsFit : Inside → Type 0
IsFit a = Fits (seen a).catalog (seen a).tables × IsTrue (is_numbered (seen a).catalog)
