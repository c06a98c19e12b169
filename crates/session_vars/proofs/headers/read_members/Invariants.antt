use Rattle.serde_json.specs.View.{members_view}
use Rattle.session_vars.proofs.Reading.{IsReading}
use Rattle.session_vars.proofs.headers.read_members.Given as goal

abbrev pub invariant-members : goal.invariant-members
invariant-members l =
    (goal.iterator-members).can_next l.name-iterator × (goal.iterator-members).is_finite l.name-iterator
    × IsReading l.headers (members_view l.name-iterator) (members_view l.members.entries)
