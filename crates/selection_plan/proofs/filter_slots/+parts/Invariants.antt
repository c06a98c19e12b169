use Rattle.std.proofs.Common.{◌≡◌, flat_map, drop}
use Rattle.query_model.specs.Queries.{filter_slots}
use Rattle.selection_plan.specs.SlotRefs.{slots_in}
use Rattle.selection_plan.specs.Gathered.{gathered}
use Rattle.selection_plan.proofs.filter_slots.+parts.Given as goal

-- those that are left are yet to be gathered
abbrev pub invariant-add_filters-loop-filter : goal.invariant-add_filters-loop-filter
invariant-add_filters-loop-filter l =
    gathered (flat_map (λ filter. filter_slots l.view filter l.table) (drop l.filter-index l.filters)) (slots_in l.slots)
    ≡ gathered (flat_map (λ filter. filter_slots l.view filter l.table) l.filters) (slots_in l.fn.slots)
