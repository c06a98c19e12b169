use Rattle.row_lookup.proofs.Ascents.{narrowed_to}
use Rattle.row_lookup.proofs.key.up_to_bound.Goals as goal

pub returns : goal.returns
returns c = record { rows = narrowed_to c.args.bound.now c.args.rows.now c.count_before.result c.count_before.ensures }
