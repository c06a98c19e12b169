use Rattle.std.proofs.Common.{◌≡◌, ◌++◌, option_map}
use Rattle.serde_json.specs.View.{members_view}
use Rattle.role_model.specs.JsonFilters.{of_each_member, operator_of}
use Rattle.filter_read.proofs.json_filter.read_each_operator.Given as goal

abbrev pub invariant-members : goal.invariant-members
invariant-members l =
    (goal.iterator-members).can_next l.name-iterator × (goal.iterator-members).is_finite l.name-iterator
    × (option_map (λ rest. l.parts ++ rest) (of_each_member (operator_of l.names l.column l.kind) (members_view l.name-iterator)) ≡ of_each_member (operator_of l.names l.column l.kind) (members_view l.map.entries))
