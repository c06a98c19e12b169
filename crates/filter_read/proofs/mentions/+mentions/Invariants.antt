use Rattle.std.proofs.Common.{◌≡◌, drop}
use Rattle.std.specs.List.{fold}
use Rattle.serde_json.specs.View.{items_view, members_view}
use Rattle.role_model.specs.JsonFilters.{with_text, mentions_of_items, mentions_of_members}
use Rattle.filter_read.specs.Kept.{StillBegins}
use Rattle.filter_read.proofs.mentions.+mentions.Given as goal

abbrev pub invariant-push_mentions_of_items-items : goal.invariant-push_mentions_of_items-items
invariant-push_mentions_of_items-items l =
    StillBegins l.fn.names l.names
    × (fold with_text l.names (mentions_of_items (items_view (drop l.value-index l.value-items)))
    ≡ fold with_text l.fn.names (mentions_of_items (items_view l.value-items)))

abbrev pub invariant-push_mentions_of_members-members : goal.invariant-push_mentions_of_members-members
invariant-push_mentions_of_members-members l =
    (goal.iterator-push_mentions_of_members-members).can_next l._name-iterator × (goal.iterator-push_mentions_of_members-members).is_finite l._name-iterator
    × StillBegins l.fn.names l.names
    × (fold with_text l.names (mentions_of_members (members_view l._name-iterator))
    ≡ fold with_text l.fn.names (mentions_of_members (members_view l.map.entries)))
