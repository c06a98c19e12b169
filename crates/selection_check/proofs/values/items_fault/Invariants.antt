use Rattle.std.proofs.Common.{◌≡◌, map, drop}
use Rattle.query_model.specs.Refusals.{first_of}
use Rattle.query_model.specs.ValueFaults.{single_fault}
use Rattle.selection_check.proofs.values.items_fault.Given as goal

abbrev pub invariant-loop-item : goal.invariant-loop-item
invariant-loop-item l =
    let judge = single_fault l.vars l.place l.kind in
    first_of (map judge (drop l.item-index l.items)) ≡ first_of (map judge l.items)
