use Rattle.std.proofs.Common.{rules, ◌≡◌, ◌-◌, Some, slice_get, length}
use Rattle.plan_model.specs.Outcomes.{last_row}
use Rattle.nested_eval.specs.Seen.{seen}
use Rattle.nested_eval.proofs.Results.{last_seen}
use Rattle.nested_eval.proofs.outcome.cell_of_last.Goals as goal

pub returns-in-Some : goal.returns-in-Some
returns-in-Some c =
    let given : Some c.in-Some.row.now ≡ slice_get c.args.rows.now (length c.args.rows.now - 1) = search rules in
    let same : last_row (seen c.args.rows.now)
    ≡ c.in-Some.row.now.now = last_seen c.args.rows.now c.in-Some.row.now given in
    rw (same, ← c.cells.ensures, ← c.cell.ensures) c.copy_val.ensures
