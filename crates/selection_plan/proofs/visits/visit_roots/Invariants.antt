use Rattle.std.proofs.Common.{◌≡◌, flat_map, drop}
use Rattle.request_model.specs.declared.flat.FlatField.TheViews.{out-FlatField}
use Rattle.query_model.specs.Queries.{root_tables, root_of}
use Rattle.selection_plan.specs.SlotRefs.{slots_in}
use Rattle.selection_plan.specs.Gathered.{gathered_on, HasVisited}
use Rattle.selection_plan.proofs.visits.visit_roots.Given as goal

-- the tables of the fields that are left are yet to be visited
abbrev pub invariant-loop-field : goal.invariant-loop-field
invariant-loop-field l = record {
  visited : HasVisited l.view l.visited.tables (slots_in l.visited.slots);
  slots : gathered_on l.view (flat_map (λ f. root_tables l.view (root_of l.view l.flat.kind f) (out-FlatField f).fields) (drop l.field-index l.flat.fields)) (slots_in l.visited.slots)
      ≡ gathered_on l.view (flat_map (λ f. root_tables l.view (root_of l.view l.flat.kind f) (out-FlatField f).fields) l.flat.fields) (slots_in l.fn.visited.slots);
}
