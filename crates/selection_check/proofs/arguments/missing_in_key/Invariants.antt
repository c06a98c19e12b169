use Rattle.std.proofs.Common.{◌≡◌, [], map, drop}
use Rattle.query_model.specs.Names.{column_name}
use Rattle.query_model.specs.ArgumentFaults.{missing_fault}
use Rattle.selection_check.proofs.arguments.missing_in_key.Given as goal

abbrev pub invariant-loop-column : goal.invariant-loop-column
invariant-loop-column l =
    let names = map (column_name l.view l.table) in
    missing_fault [] l.view (names (drop l.column-index l.column-items)) l.args ≡ missing_fault [] l.view (names l.column-items) l.args
