use Rattle.std.proofs.Common.{rules, ◌≡◌, ◌-◌, Some, slice_get, length}
use Rattle.row_lookup.proofs.Ascents.{end_parted}
use Rattle.row_lookup.proofs.key.is_end.Goals as goal

pub returns-in-Some : goal.returns-in-Some
returns-in-Some c = λ h.
    let last : Some c.in-Some.last.now ≡ slice_get c.args.rows.now (length c.args.rows.now - 1) = search rules in
    end_parted c.args.bound.now c.args.rows.now c.in-Some.last.now c.stands_before.result c.requires last c.stands_before.ensures h
