use Rattle.std.proofs.Common.{◌≡◌, map, drop}
use Rattle.std.specs.List.{list_any}
use Rattle.std.specs.Str.{bytes_eq}
use Rattle.query_model.specs.Names.{column_name}
use Rattle.selection_check.proofs.arguments.is_key_name.Given as goal

abbrev pub invariant-loop-column : goal.invariant-loop-column
invariant-loop-column l =
    let names = map (column_name l.view l.table) in
    list_any (bytes_eq l.name) (names (drop l.column-index l.column-items)) ≡ list_any (bytes_eq l.name) (names l.column-items)
