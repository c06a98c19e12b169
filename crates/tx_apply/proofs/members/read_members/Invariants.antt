use Rattle.std.proofs.Common.{◌≡◌, ◌++◌, IsTrue, map, option_map, string_bytes}
use Rattle.serde_json.specs.View.{members_view}
use Rattle.data_model.specs.Cells.{ascend}
use Rattle.data_model.specs.Form.{cells_from}
use Rattle.tx_apply.proofs.members.read_members.Given as goal

abbrev pub invariant-members : goal.invariant-members
invariant-members l =
    (goal.iterator-members).can_next l.name-iterator × (goal.iterator-members).is_finite l.name-iterator
    × (option_map (λ rest. l.cells ++ rest) (cells_from (members_view l.name-iterator)) ≡ cells_from (members_view l.map.entries))
    × IsTrue (ascend (map (λ c. c.column) l.cells ++ map (λ e. string_bytes e.0) l.name-iterator))
