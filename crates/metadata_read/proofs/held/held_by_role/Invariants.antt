use Rattle.std.proofs.Common.{◌≡◌, [], drop}
use Rattle.role_model.specs.Texts.{Text}
use Rattle.metadata_read.specs.Held.{with_tables, kept_by}
use Rattle.metadata_read.proofs.held.held_by_role.Given as goal

-- what is kept of each role, with the rest of the tables
abbrev pub invariant-loop-at : goal.invariant-loop-at
invariant-loop-at l = (q : Text) → with_tables q l.at (kept_by l.kept q) (drop l.at l.tables) ≡ with_tables q 0 [] l.tables
