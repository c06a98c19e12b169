use Rattle.std.proofs.Common.{◌%◌, ap}
use Rattle.row_lookup.proofs.chain.slot.Goals as goal

pub returns-clause-value : goal.returns-clause-value
returns-clause-value c = ap (λ h. h % c.args.size) c.hash.ensures
