use Rattle.std.proofs.Common.{refl}
use Rattle.selection_plan.proofs.Gathering.{one_said}
use Rattle.selection_plan.proofs.filter_slots.add.Goals as goal

pub returns : goal.returns
returns c = one_said (record { name = c.args.name; kind = c.args.kind }) _ _ _ refl c.in_ok-insert.ensures.keys
