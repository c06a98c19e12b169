use Rattle.std.proofs.Common.{◌≡◌, flat_map, drop}
use Rattle.query_model.specs.Queries.{tables_below}
use Rattle.selection_plan.specs.SlotRefs.{slots_in}
use Rattle.selection_plan.specs.Gathered.{gathered_on, HasVisited}
use Rattle.selection_plan.proofs.visits.+fields.Given as goal

-- the tables of the fields that are left are yet to be visited
abbrev pub invariant-visit_fields-loop-field : goal.invariant-visit_fields-loop-field
invariant-visit_fields-loop-field l = record {
  visited : HasVisited l.view l.visited.tables (slots_in l.visited.slots);
  slots : gathered_on l.view (flat_map (tables_below l.view l.table) (drop l.field-index l.fields)) (slots_in l.visited.slots)
      ≡ gathered_on l.view (flat_map (tables_below l.view l.table) l.fields) (slots_in l.fn.visited.slots);
}
