use Rattle.std.proofs.Common.{rules, sym, ◌∙◌}
use Rattle.std.proofs.lemmas.List.{at_drop_all}
use Rattle.metadata_read.specs.Held.{with_tables, kept_by}
use Rattle.metadata_read.proofs.Kept.{all_tables}
use Rattle.metadata_read.proofs.held.held_by_role.Goals as goal

pub returns : goal.returns
returns c = λ q.
    sym (at_drop_all (with_tables q c.loop-at.at (kept_by c.loop-at.kept q)) c.args.tables.now c.loop-at.at (search rules))
    ∙ c.loop-at.invariant q
    ∙ all_tables q c.args.tables.now
