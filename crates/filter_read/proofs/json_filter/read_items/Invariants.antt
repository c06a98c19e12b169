use Rattle.std.proofs.Common.{◌≡◌, ◌++◌, drop, option_map}
use Rattle.serde_json.specs.View.{items_view}
use Rattle.role_model.specs.JsonFilters.{of_each, item_of}
use Rattle.filter_read.proofs.json_filter.read_items.Given as goal

abbrev pub invariant-loop-value : goal.invariant-loop-value
invariant-loop-value l =
    option_map (λ rest. l.items ++ rest) (of_each (item_of l.kind) (items_view (drop l.value-index l.value-items))) ≡ of_each (item_of l.kind) (items_view l.value-items)
