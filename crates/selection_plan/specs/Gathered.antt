-- Session variables that are gathered one after the other, each put in its place. This project's own.
use Rattle.std.specs.Prelude.{◌≡◌, ℕ, true, List, [], ◌∷◌, flat_map}
use Rattle.std.specs.Ordering.{nat_cmp}
use Rattle.std.specs.BTreeSet.{BTreeSet, contains}
use Rattle.scalar_val.specs.Ordered.{included}
use Rattle.role_model.specs.Roles.{View}
use Rattle.query_model.specs.declared.session.SessionSlot.{SessionSlot}
use Rattle.query_model.specs.Queries.{slot_cmp, table_slots}

-- the elements in their places among those that are there, unless one that ties is there
abbrev pub gathered : List SessionSlot → List SessionSlot → List SessionSlot
gathered [] there = there
gathered (x ∷ xs) there = gathered xs (included slot_cmp x there)

-- those that the role's filters of tables name
abbrev pub gathered_on : View → List ℕ → List SessionSlot → List SessionSlot
gathered_on v tables there = gathered (flat_map (table_slots v) tables) there

-- those of each visited table are there
abbrev pub HasVisited : View → BTreeSet ℕ → List SessionSlot → Type 0
HasVisited v tables there = (table : ℕ) → contains nat_cmp tables table ≡ true → gathered (table_slots v table) there ≡ there
