use Rattle.admission_bounds.proofs.FewSlots.{slots_are_few}
use Rattle.admission_bounds.proofs.laws.few_slots.Goals as goal

pub returns : goal.returns
returns c = record { few = slots_are_few }
