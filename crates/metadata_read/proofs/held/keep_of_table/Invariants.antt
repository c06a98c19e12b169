use Rattle.std.proofs.Common.{◌≡◌, drop}
use Rattle.role_model.specs.Texts.{Text}
use Rattle.metadata_read.specs.Held.{with_each, kept_by}
use Rattle.metadata_read.proofs.held.keep_of_table.Given as goal

-- what is kept of each role, with the rest of the table
abbrev pub invariant-loop-permission : goal.invariant-loop-permission
invariant-loop-permission l = (q : Text) → with_each q l.at l.table (kept_by l.kept q) (drop l.permission-index l.permission-items) ≡ with_each q l.at l.table (kept_by l.fn.kept q) l.table.select
