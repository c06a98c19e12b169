use Rattle.std.proofs.Common.{◌≡◌, flat_map, drop}
use Rattle.query_model.specs.Queries.{slots_of}
use Rattle.selection_plan.specs.SlotRefs.{slots_in}
use Rattle.selection_plan.specs.Gathered.{gathered}
use Rattle.selection_plan.proofs.filter_slots.add_operands.Given as goal

-- those that are left are yet to be gathered
abbrev pub invariant-loop-operand : goal.invariant-loop-operand
invariant-loop-operand l =
    gathered (flat_map (slots_of l.view l.table l.column) (drop l.operand-index l.operands)) (slots_in l.slots)
    ≡ gathered (flat_map (slots_of l.view l.table l.column) l.operands) (slots_in l.fn.slots)
