use Rattle.std.proofs.Common.{◌≡◌, ◌++◌, drop, option_map}
use Rattle.serde_json.specs.View.{items_view, members_view}
use Rattle.role_model.specs.JsonFilters.{filters_of_items, pairs_of}
use Rattle.filter_read.proofs.json_filter.+filters.Given as goal

abbrev pub invariant-read_each_filter-items : goal.invariant-read_each_filter-items
invariant-read_each_filter-items l =
    option_map (λ rest. l.parts ++ rest) (filters_of_items l.columns l.names (items_view (drop l.value-index l.value-items))) ≡ filters_of_items l.columns l.names (items_view l.value-items)

abbrev pub invariant-read_pairs-members : goal.invariant-read_pairs-members
invariant-read_pairs-members l =
    (goal.iterator-read_pairs-members).can_next l.name-iterator × (goal.iterator-read_pairs-members).is_finite l.name-iterator
    × (option_map (λ rest. l.parts ++ rest) (pairs_of l.columns l.names (members_view l.name-iterator)) ≡ pairs_of l.columns l.names (members_view l.map.entries))
